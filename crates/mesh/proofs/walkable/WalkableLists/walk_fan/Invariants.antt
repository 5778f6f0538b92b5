use Rattle.mesh.specs.MeshLists.{surface_of}
use Rattle.mesh.proofs.FanWalk.{Walking, Found}
use Rattle.mesh.proofs.MarkedCorners.{unmarked}
use Rattle.mesh.proofs.walkable.WalkableLists.walk_fan.Given as goal

abbrev pub invariant-loop-d : goal.invariant-loop-d
invariant-loop-d g l =
    let f = surface_of g.P.PointKind.written l.self.readable.limited.given in
    record { walking : Walking f l.first l.initial.opened.marked l.opened.marked l.h; found : Found f l.first l.h l.least }

abbrev pub decreases-loop-d : goal.decreases-loop-d
decreases-loop-d g l = unmarked l.opened.marked
