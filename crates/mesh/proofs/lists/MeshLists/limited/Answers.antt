use Rattle.std.proofs.lemmas.Bool.Decides.{not_from_Decides}
use Rattle.mesh.specs.MeshLists.{meant}
use Rattle.mesh.proofs.FirstRefusal.{refuse_limits}
use Rattle.mesh.proofs.lists.MeshLists.limited.Goals as goal

pub returns-else-keeps_limits-clause-refused : goal.returns-else-keeps_limits-clause-refused
returns-else-keeps_limits-clause-refused g c =
    refuse_limits (meant g.P.PointKind.written c.args.self) (not_from_Decides c.keeps_limits.result c.keeps_limits.ensures c.if-keeps_limits.false)
