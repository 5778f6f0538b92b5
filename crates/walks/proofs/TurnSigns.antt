-- A turn to the left, in the words of taut strings: the step to the third point points to the left of the step to the second (`left_turn`).
-- Where that step does not point to the right, the turn is none to the right (`not_right`).
use Rattle.std.proofs.Common.{◌≡◌, ℕ, arith}
use Rattle.algebra.specs.Arithmetic.{Nn}
use Rattle.algebra.specs.Number.{Number, Positive, Signed, sign, quadratics}
use Rattle.algebra.specs.Plane.{◌⊗◌, ◌⟶◌ as ◌⇢◌}
use Rattle.algebra.specs.declared.Sign.{Sign}
use Rattle.algebra.specs.declared.Sign.TheVariants.{Minus, Zero, Plus}
use Rattle.algebra.proofs.Quadratics.{signs_say}
use Rattle.geometry.specs.declared.Turn.TheVariants.{Left, Right}
use Rattle.geometry.specs.Plane.{Point, turn_by, doubled_area, turn}
use Rattle.taut.specs.declared.Side.TheVariants.{Left as on_left}
use Rattle.taut.specs.Sleeve.{veer}
use Rattle.mesh.specs.Surface.{NotRight}

infix 73 ◌⟶◌
abbrev pub ◌⟶◌ : Point → Point → Point
a ⟶ b = ◌⇢◌ quadratics a b

left_sign : (s : Sign) (n : Number) → Signed s n → turn_by s ≡ Left → Positive n
left_sign Plus n h e = h
left_sign Zero n h e = let z : ◌≡◌ {A = ℕ} 0 1 = cc in absurd (omega arith)
left_sign Minus n h e = let z : ◌≡◌ {A = ℕ} 0 1 = cc in absurd (omega arith)

right_sign : (s : Sign) (n : Number) → Signed s n → Nn quadratics n → turn_by s ≡ Right → ⊥
right_sign Plus n h k e = let z : ◌≡◌ {A = ℕ} 0 1 = cc in omega arith
right_sign Zero n h k e = let z : ◌≡◌ {A = ℕ} 0 1 = cc in omega arith
right_sign Minus n h k e = k.not_neg h

pub left_turn : (a b c : Point) → turn a b c ≡ Left → Positive (veer quadratics on_left (a ⟶ b) (a ⟶ c))
unfolding ◌⊗◌ ◌⇢◌
left_turn a b c e = left_sign (sign (doubled_area a b c)) (doubled_area a b c) (signs_say (doubled_area a b c)) e

pub not_right : (a b c : Point) → Nn quadratics (veer quadratics on_left (a ⟶ b) (a ⟶ c)) → NotRight (turn a b c)
unfolding ◌⊗◌ ◌⇢◌
not_right a b c h e = right_sign (sign (doubled_area a b c)) (doubled_area a b c) (signs_say (doubled_area a b c)) h e
