use Rattle.std.proofs.Common.{◌∙◌}
use Rattle.geometry.specs.Points.{step_value}
use Rattle.gauge.specs.Measure.{larger}
use Rattle.gauge.proofs.Tables.{max_is}
use Rattle.gauge.proofs.Magnitude.{maximum_is}
use Rattle.gauge.proofs.supplied.MaximumGauge.measure.Goals as goal

pub returns : goal.returns
returns c =
    let x = c.from.ensures ∙ c.magnitude.ensures in
    let y = c.into.ensures ∙ c.magnitude-2.ensures in
    max_is _ c.from.result c.into.result c.max.ensures ∙ (λ i. larger (x i) (y i)) ∙ maximum_is (step_value c.args.step)
