use Rattle.std.proofs.Common.{◌<◌, ◌≤◌, length, ap, ◌∙◌, rules}
use Rattle.gauge.specs.Measure.{measure}
use Rattle.funnel.proofs.StringLengths.{roomy, strung_on, strung_out}
use Rattle.funnel.proofs.lengths.string_length.Goals as goal

pub grown-total-requires : goal.grown-total-requires
grown-total-requires g c =
    let few : length c.args.bends.now ≤ 18446744073709551615 = search rules in
    roomy _ _ _ _ _ _ _ _ c.loop-left.invariant few

pub loop-left-preserved : goal.loop-left-preserved
loop-left-preserved g c =
    let some : 1 ≤ length c.loop-left.left.now = search rules in
    strung_on _ _ _ _ _ _ _ c.loop-left.left.now _ _ c.measure.result c.grown-total.result c.loop-left.invariant some
    c.point-point.ensures (c.measure.ensures ∙ ap (measure (g.G.Gauge.forms c.args.gauge.now)) c.step.ensures) c.grown-total.ensures

pub grown-requires : goal.grown-requires
grown-requires g c =
    let few : length c.args.bends.now ≤ 18446744073709551615 = search rules in
    roomy _ _ _ _ _ _ _ _ c.loop-left.invariant few

pub returns : goal.returns
returns g c =
    let none : length c.loop-left.left.now < 1 = search rules in
    strung_out _ _ _ _ _ _ _ c.loop-left.left.now c.measure-2.result c.grown.result c.loop-left.invariant none
    (c.measure-2.ensures ∙ ap (measure (g.G.Gauge.forms c.args.gauge.now)) c.step-2.ensures) c.grown.ensures
