use Rattle.std.proofs.Common.{◌≤◌, length, arith, rules}
use Rattle.std.proofs.lemmas.Int.{ints}
use Rattle.gauge.proofs.Spans.{walked_on}
use Rattle.gauge.proofs.rows.span_of.Goals as goal

pub loop-left-preserved : goal.loop-left-preserved
loop-left-preserved g c =
    let some : 1 ≤ length c.loop-left.left.now = search rules in
    let w = c.loop-left.invariant in
    walked_on g.P.PointKind.at (g.G.Gauge.forms c.args.gauge.now) c.args.start c.args.row.now c.loop-left.total c.loop-left.last c.loop-left.left.now c.first-item.result
    c.measure-piece.result c.step.result _ _ w some c.first-item.is c.step.ensures c.measure-piece.ensures (omega (arith, ints, w.p_bound.0, w.p_bound.1)) (omega (arith, ints, w.q_bound.0, w.q_bound.1))
