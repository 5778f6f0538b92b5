use Rattle.mesh.specs.MeshLists.{surface_of}
use Rattle.mesh.specs.Stages.{WalkedTo}
use Rattle.mesh.proofs.walkable.WalkableLists.walk_fans.Given as goal

abbrev pub invariant-loop-k : goal.invariant-loop-k
invariant-loop-k g l = WalkedTo (surface_of g.P.PointKind.written l.self.readable.limited.given) l.k l.opened.marked l.least
