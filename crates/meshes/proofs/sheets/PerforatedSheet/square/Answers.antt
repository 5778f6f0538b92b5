use Rattle.std.proofs.Common.{ap, arith}
use Rattle.surfaces.proofs.SheetCells.{numbered_kept}
use Rattle.surfaces.proofs.SheetAnswers.{low_cell, high_cell}
use Rattle.meshes.proofs.sheets.PerforatedSheet.square.Goals as goal
use Rattle.meshes.proofs.sheets.PerforatedSheet.square.Goals.{then-place-even, else-place-even}

pub invariant_of-result-clause-row_within : goal.invariant_of-result-clause-row_within
invariant_of-result-clause-row_within c =
    let s = c.args.self.now in
    let k = numbered_kept s.columns s.rows c.args.number c.requires in
    elim c.if-place-even.branch [
      | then-place-even w ↦ omega (arith, ap (λ q. q.row) (low_cell s.columns c.args.number w.if-place-even.true), k.rows, s.few_rows, ap (λ x. x.1.0) w.result-is)
      | else-place-even w ↦ omega (arith, ap (λ q. q.row) (high_cell s.columns c.args.number w.if-place-even.false), k.rows, s.few_rows, ap (λ x. x.1.0) w.result-is)
    ]

pub returns-clause-row : goal.returns-clause-row
returns-clause-row c =
    let s = c.args.self.now in
    let k = numbered_kept s.columns s.rows c.args.number c.requires in
    elim c.if-place-even.branch [
      | then-place-even w ↦ omega (arith, ap (λ q. q.row) (low_cell s.columns c.args.number w.if-place-even.true), k.rows, s.few_rows, ap (λ x. x.1.0) w.result-is)
      | else-place-even w ↦ omega (arith, ap (λ q. q.row) (high_cell s.columns c.args.number w.if-place-even.false), k.rows, s.few_rows, ap (λ x. x.1.0) w.result-is)
    ]
