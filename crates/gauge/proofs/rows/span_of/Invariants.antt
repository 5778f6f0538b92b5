use Rattle.std.proofs.Common.{length}
use Rattle.gauge.proofs.Spans.{Walked}
use Rattle.gauge.proofs.rows.span_of.Given as goal

abbrev pub invariant-loop-left : goal.invariant-loop-left
invariant-loop-left g l = Walked g.P.PointKind.at (g.G.Gauge.forms l.gauge) l.initial.last l.initial.left l.total l.last l.left

abbrev pub decreases-loop-left : goal.decreases-loop-left
decreases-loop-left g l = length l.left
