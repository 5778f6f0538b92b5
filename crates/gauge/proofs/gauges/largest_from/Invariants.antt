use Rattle.std.proofs.Common.{◌≡◌, map, drop}
use Rattle.coordinates.specs.Values.{value}
use Rattle.geometry.specs.Points.{step_value}
use Rattle.gauge.specs.Measure.{top}
use Rattle.gauge.specs.Forms.{form_value}
use Rattle.gauge.proofs.gauges.largest_from.Given as goal

-- what is left gives the whole answer
abbrev pub invariant-loop-form : goal.invariant-loop-form
invariant-loop-form l = top (value l.best) (map form_value (drop l.form-index l.forms)) (step_value l.step) ≡ top (value l.initial.best) (map form_value l.forms) (step_value l.step)
