use Rattle.mesh.proofs.MarkedCorners.{none_marked}
use Rattle.mesh.proofs.marks.Marks.none.Goals as goal

pub returns : goal.returns
returns c = none_marked 12288
