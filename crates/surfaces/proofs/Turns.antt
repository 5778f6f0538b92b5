-- What a turn says of a cross product, and the other way round.
use Rattle.std.proofs.Common.{◌≡◌, ℕ, refl, ap, ◌∙◌, arith}
use Rattle.algebra.specs.Arithmetic.{Nn}
use Rattle.algebra.specs.Number.{Number, minus, Positive, sign, Signed, quadratics}
use Rattle.algebra.specs.Plane.{Vec, less, ◌⊗◌}
use Rattle.algebra.specs.declared.Sign.{Sign}
use Rattle.algebra.specs.declared.Sign.TheVariants.{Minus, Zero, Plus}
use Rattle.algebra.proofs.RingSolver.{◌:-◌, :-◌, ◌:=◌, Expr, E, neg_nil}
use Rattle.algebra.proofs.OrderedRing.{base, pos_eq, clash}
use Rattle.algebra.proofs.PlaneSolver.{◌:×◌, ring_v}
use Rattle.algebra.proofs.Quadratics.{quadratic_ring, ordered_ring, signs_say}
use Rattle.geometry.specs.Plane.{Point, step, doubled_area, turn, turn_by, mirror}
use Rattle.geometry.specs.declared.Turn.TheVariants.{Left, Right}
use Rattle.mesh.specs.Surface.{NotRight}

infix 72 ◌⋀◌
abbrev pub ◌⋀◌ : Vec Number → Vec Number → Number
a ⋀ b = ◌⊗◌ quadratics a b

left_by : (s : Sign) (n : Number) → Signed s n → turn_by s ≡ Left → Positive n
left_by Plus n h e = h
left_by Zero n h e = absurd (let z : ◌≡◌ {A = ℕ} 0 1 = cc in omega arith)
left_by Minus n h e = absurd (let z : ◌≡◌ {A = ℕ} 0 1 = cc in omega arith)

by_plus : (s : Sign) (n : Number) → Signed s n → Positive n → turn_by s ≡ Left
by_plus Plus n h p = refl
by_plus Zero n h p = absurd (ordered_ring.order.pos_nil (pos_eq quadratic_ring h p))
by_plus Minus n h p = absurd (clash quadratic_ring p h)

by_minus : (s : Sign) (n : Number) → Signed s n → Positive (minus n) → turn_by s ≡ Right
by_minus Plus n h p = absurd (clash quadratic_ring h p)
by_minus Zero n h p = absurd (ordered_ring.order.pos_nil (pos_eq quadratic_ring (ap minus h ∙ neg_nil (base quadratic_ring)) p))
by_minus Minus n h p = refl

pub left_pos : (a b c : Point) → turn a b c ≡ Left → Positive (step a b ⋀ step a c)
unfolding ◌⊗◌
left_pos a b c e = left_by (sign (doubled_area a b c)) (doubled_area a b c) (signs_say (doubled_area a b c)) e

pub pos_left : (a b c : Point) → Positive (step a b ⋀ step a c) → turn a b c ≡ Left
unfolding ◌⊗◌
pos_left a b c p = by_plus (sign (doubled_area a b c)) (doubled_area a b c) (signs_say (doubled_area a b c)) p

pub neg_right : (a b c : Point) → Positive (minus (step a b ⋀ step a c)) → turn a b c ≡ Right
unfolding ◌⊗◌
neg_right a b c p = by_minus (sign (doubled_area a b c)) (doubled_area a b c) (signs_say (doubled_area a b c)) p

pub not_right : (a b c : Point) → NotRight (turn a b c) → Nn quadratics (step a b ⋀ step a c)
not_right a b c h = record { not_neg = λ p. h (neg_right a b c p) }

right_by : (s : Sign) (n : Number) → Signed s n → turn_by s ≡ Right → Positive (minus n)
right_by Plus n h e = absurd (let z : ◌≡◌ {A = ℕ} 0 1 = cc in omega arith)
right_by Zero n h e = absurd (let z : ◌≡◌ {A = ℕ} 0 1 = cc in omega arith)
right_by Minus n h e = h

pub nn_not_right : (a b c : Point) → Nn quadratics (step a b ⋀ step a c) → NotRight (turn a b c)
unfolding ◌⊗◌
nn_not_right a b c h e = h.not_neg (right_by (sign (doubled_area a b c)) (doubled_area a b c) (signs_say (doubled_area a b c)) e)

-- the same triangle, read from its next corner
rolled : (a b c : Point) → doubled_area a b c ≡ doubled_area b c a
rolled = ring_v (base quadratic_ring) 3 0 (λ a b c. less E b a :× less E c a := less E c b :× less E a b) refl

pub turn_rolled : (a b c : Point) → turn a b c ≡ turn b c a
turn_rolled a b c = ap (λ n. turn_by (sign n)) (rolled a b c)

abbrev over : Vec Expr → Vec Expr
over a = record { x = :- a.x; y = a.y }

flipped : (a b c : Point) → doubled_area (mirror a) (mirror b) (mirror c) ≡ doubled_area a c b
flipped = ring_v (base quadratic_ring) 3 0 (λ a b c. less E (over b) (over a) :× less E (over c) (over a) := less E c a :× less E b a) refl

pub turn_mirrored : (a b c : Point) → turn (mirror a) (mirror b) (mirror c) ≡ turn a c b
turn_mirrored a b c = ap (λ n. turn_by (sign n)) (flipped a b c)
