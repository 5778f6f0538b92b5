-- in_range         a part lies from −10,000 to 10,000
-- point_refusal    why a point cannot be made of two numbers: x is out of range, or else y is
-- Placed           the answer of making a coordinate: the coordinate if the number is in range, else the refusal that names the axis
-- Made             the answer of making a point: the refusal if there is one, else the point of these numbers
use Rattle.std.specs.Prelude.{◌≡◌, Bool, true, false, cond, ◌&&◌, ℤ, pos, negsuc, Some, None, Ok, Err, Option, Result, int_le}
use Rattle.base.specs.declared.refusals.Axis.{Axis}
use Rattle.base.specs.declared.refusals.Axis.TheVariants.{X, Y}
use Rattle.base.specs.declared.refusals.Refusal.{Refusal}
use Rattle.base.specs.declared.refusals.Refusal.TheVariants.{PointRange}
use Rattle.algebra.specs.Number.{Number}
use Rattle.coordinates.specs.Values.{packed_value}
use Rattle.coordinates.specs.declared.Packed.{Packed}
use Rattle.geometry.specs.Plane.{Point}

abbrev pub in_range : ℤ → Bool
in_range z = int_le (negsuc 9999) z && int_le z (pos 10000)

abbrev pub number_in_range : Number → Bool
number_in_range a = in_range a.p && in_range a.q

abbrev pub point_refusal : Point → Option Refusal
point_refusal a = cond (number_in_range a.x) (cond (number_in_range a.y) None (Some (PointRange Y))) (Some (PointRange X))

abbrev pub Placed : Result Packed Refusal → Number → Axis → Type 0
Placed (Ok r) a axis = (number_in_range a ≡ true) × (packed_value r ≡ a)
Placed (Err e) a axis = (number_in_range a ≡ false) × (e ≡ PointRange axis)

abbrev pub Made : {P : Type 0} → (P → Point) → Result P Refusal → Point → Type 0
Made at (Ok r) a = (point_refusal a ≡ None) × (at r ≡ a)
Made at (Err e) a = point_refusal a ≡ Some e
