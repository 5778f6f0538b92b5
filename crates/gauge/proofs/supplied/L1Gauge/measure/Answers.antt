use Rattle.std.proofs.Common.{◌∙◌}
use Rattle.algebra.specs.Number.{◌⊕◌}
use Rattle.geometry.specs.Points.{step_value}
use Rattle.gauge.proofs.Magnitude.{l1_is}
use Rattle.gauge.proofs.supplied.L1Gauge.measure.Goals as goal

pub returns : goal.returns
returns c = c.add.ensures ∙ (λ i. c.magnitude.ensures i ⊕ c.magnitude-2.ensures i) ∙ l1_is (step_value c.args.step)
