use Rattle.std.proofs.Common.{length}
use Rattle.funnel.specs.Corners.{bend_point}
use Rattle.funnel.proofs.StringLengths.{Strung}
use Rattle.funnel.proofs.lengths.string_length.Given as goal

abbrev pub invariant-loop-left : goal.invariant-loop-left
invariant-loop-left g l =
    let at = g.M.Point.PointKind.at in
    Strung (bend_point (g.M.Mesh.surface l.mesh)) (g.G.Gauge.forms l.gauge) (at l.initial.last) l.initial.left (at l.end) l.total (at l.last) l.left

abbrev pub decreases-loop-left : goal.decreases-loop-left
decreases-loop-left g l = length l.left
