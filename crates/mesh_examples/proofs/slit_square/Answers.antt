use Rattle.std.proofs.Common.{Err, subst}
use Rattle.base.specs.declared.refusals.Refusal.TheVariants.{FullTurn}
use Rattle.base.specs.Ids.{vertex, half_edge}
use Rattle.mesh.specs.Verdict.{Verdict}
use Rattle.mesh.proofs.OneVerdict.{verdicts_agree}
use Rattle.mesh_examples.proofs.Squares.{slit_lists, slit_refused}
use Rattle.mesh_examples.proofs.slit_square.Goals as goal

pub returns : goal.returns
returns c = verdicts_agree slit_lists c.validate.result (Err (FullTurn (half_edge 11) (vertex 4))) (subst (λ l. Verdict l c.validate.result) c.round_the_middle.ensures c.validate.ensures) slit_refused
