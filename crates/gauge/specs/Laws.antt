-- Largest         a number is the largest value of a row of forms at a step: some form reaches it, and none is above it
-- Measures        the measure of a row that is not empty is the largest value
-- Triangle        the measure of a sum of steps is at most the sum of the measures
-- Multiples       a multiple of a step, by a number that is not negative, measures that multiple
-- Evenness        a step and its opposite measure the same
-- GaugeLaws       all of these, for every gauge and steps of every size
use Rattle.std.specs.Prelude.{◌≡◌, List}
use Rattle.algebra.specs.Arithmetic.{Nn}
use Rattle.algebra.specs.Number.{Number, ◌⊕◌, ◌⊛◌, quadratic_ops, quadratics}
use Rattle.algebra.specs.Order.{AtMost}
use Rattle.algebra.specs.Plane.{Vec, plus, times}
use Rattle.gauge.specs.Measure.{Form, at, measure, Among, opposite, Lawful}

pub record Largest (fs : List Form) (v : Vec Number) (m : Number) : Type 0 where
  pub reached : (f : Form) × Among f fs × (at f v ≡ m)
  pub bounds : (f : Form) → Among f fs → AtMost (at f v) m

pub record GaugeLaws (fs : List Form) : Type 0 where
  pub measures : (v : Vec Number) → Largest fs v (measure fs v)
  pub triangle : (u v : Vec Number) → AtMost (measure fs (plus quadratic_ops u v)) (measure fs u ⊕ measure fs v)
  pub multiples : (k : Number) (v : Vec Number) → Nn quadratics k → measure fs (times quadratic_ops k v) ≡ k ⊛ measure fs v
  pub evenness : (v : Vec Number) → measure fs (opposite v) ≡ measure fs v

abbrev pub GaugesStand : Type 0
GaugesStand = (fs : List Form) → Lawful fs → GaugeLaws fs
