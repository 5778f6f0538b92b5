use Rattle.std.proofs.Common.{◌<◌}
use Rattle.base.specs.declared.ids.HalfEdgeId.{HalfEdgeId}
use Rattle.mesh.specs.Sound.{Paired}
use Rattle.mesh.specs.MeshLists.{surface_of}
use Rattle.mesh.proofs.limited.LimitedLists.first_unpaired.Given as goal

abbrev pub invariant-loop-k : goal.invariant-loop-k
invariant-loop-k g l = (h : HalfEdgeId) → h.0 < l.k → Paired (surface_of g.P.PointKind.written l.self.given) h
