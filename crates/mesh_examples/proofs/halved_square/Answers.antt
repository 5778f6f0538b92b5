use Rattle.std.proofs.Common.{Ok}
use Rattle.mesh.proofs.OneVerdict.{verdicts_agree}
use Rattle.mesh_examples.proofs.Squares.{pair_lists, pair_accepted}
use Rattle.mesh_examples.proofs.halved_square.Goals as goal

pub returns : goal.returns
returns c = verdicts_agree pair_lists c.validate.result (Ok tt) c.validate.ensures pair_accepted
