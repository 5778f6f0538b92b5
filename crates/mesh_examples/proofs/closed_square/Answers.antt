use Rattle.std.proofs.Common.{Err, subst}
use Rattle.base.specs.declared.refusals.Refusal.TheVariants.{ClosedFan}
use Rattle.base.specs.Ids.{vertex, half_edge}
use Rattle.mesh.specs.Verdict.{Verdict}
use Rattle.mesh.proofs.OneVerdict.{verdicts_agree}
use Rattle.mesh_examples.proofs.Squares.{closed_lists, closed_refused}
use Rattle.mesh_examples.proofs.closed_square.Goals as goal

pub returns : goal.returns
returns c = verdicts_agree closed_lists c.validate.result (Err (ClosedFan (half_edge 2) (vertex 4))) (subst (λ l. Verdict l c.validate.result) c.round_the_middle.ensures c.validate.ensures) closed_refused
