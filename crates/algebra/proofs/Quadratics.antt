-- The numbers p + q√2 of specs/ are an ordered commutative ring, and the test for positive numbers finds them all.
use Rattle.std.proofs.Common.{◌≡◌, zero as nought, suc, Bool, true, false, cond, ◌&&◌, T, ℤ, pos, negsuc, ◌≤ℤ◌, sym, refl, ap, subst, inl, inr, arith}
use Rattle.std.proofs.lemmas.Int.{ints, by_lt_z}
use Rattle.algebra.specs.Arithmetic.{RingLaws, OrderLaws, Nn}
use Rattle.algebra.specs.Number.{Number, number, ◌⊕◌, ◌⊛◌, minus, zero, one, square, twice_square, is_zero_part, is_zero, Positive, neither, first, second, above, sign, Signed, SignsSay, quadratic_ops, quadratics}
use Rattle.algebra.specs.Number as spec
use Rattle.algebra.specs.declared.Sign.TheVariants.{Minus, Zero, Plus}
use Rattle.algebra.proofs.OrderedRing.{OrderedRing, base}
use Rattle.algebra.proofs.Integers.{integers, whole_numbers}
use Rattle.algebra.proofs.Irrational.{irrational}
use Rattle.algebra.proofs.Adjoined as A

abbrev to : Number → A.Pair ℤ
to a = record { p = a.p; q = a.q }

abbrev of : A.Pair ℤ → Number
of a = record { p = a.p; q = a.q }

laws : RingLaws (A.ops_s (base integers))
laws = A.laws_s (base integers)

order : OrderLaws (A.ops_s (base integers)) (A.Positive integers)
order = A.order_s integers irrational

nn_to : (x : ℤ) → pos 0 ≤ℤ x → Nn whole_numbers x
nn_to x h = record { not_neg = λ k. omega (arith, ints) }

nn_of : (x : ℤ) → Nn whole_numbers x → pos 0 ≤ℤ x
nn_of x h = by_lt_z x (pos 0) (λ k. absurd (h.not_neg (omega (arith, ints)))) (λ k. k)

positive_to : (a : Number) → Positive a → A.Positive integers (to a)
positive_to a (neither h k z) = A.neither (nn_to a.p h) (nn_to a.q k) z
positive_to a (first h k n) = A.fat h (omega (arith, ints)) (omega (arith, ints))
positive_to a (second h k n) = A.thin h (omega (arith, ints)) (omega (arith, ints))

positive_of : (a : A.Pair ℤ) → A.Positive integers a → Positive (of a)
positive_of a (A.neither h k z) = neither (nn_of a.p h) (nn_of a.q k) z
positive_of a (A.fat h k n) = first h (omega (arith, ints)) (omega (arith, ints))
positive_of a (A.thin h k n) = second h (omega (arith, ints)) (omega (arith, ints))

ring_laws : RingLaws quadratic_ops
ring_laws = record {
  add_assoc = λ a b c. ap of (laws.add_assoc (to a) (to b) (to c));
  add_comm = λ a b. ap of (laws.add_comm (to a) (to b));
  add_nil = λ a. ap of (laws.add_nil (to a));
  add_neg = λ a. ap of (laws.add_neg (to a));
  mul_assoc = λ a b c. ap of (laws.mul_assoc (to a) (to b) (to c));
  mul_comm = λ a b. ap of (laws.mul_comm (to a) (to b));
  mul_one = λ a. ap of (laws.mul_one (to a));
  mul_add = λ a b c. ap of (laws.mul_add (to a) (to b) (to c));
}

order_laws : OrderLaws quadratic_ops Positive
order_laws = record {
  pos_one = positive_of (to one) order.pos_one;
  pos_nil = λ h. order.pos_nil (positive_to zero h);
  pos_add = λ {a} {b} h k. positive_of (to (a ⊕ b)) (order.pos_add (positive_to a h) (positive_to b k));
  pos_mul = λ {a} {b} h k. positive_of (to (a ⊛ b)) (order.pos_mul (positive_to a h) (positive_to b k));
  trichotomy = λ a. elim (order.trichotomy (to a)) [ inl h ↦ inl (positive_of (to a) h) | inr (inl e) ↦ inr (inl (ap of e)) | inr (inr h) ↦ inr (inr (positive_of (to (minus a)) h)) ];
}

pub ordered_ring : spec.OrderedRing
ordered_ring = record { ring = ring_laws; order = order_laws }

-- the ordered ring at which every abstract law is used
abbrev pub quadratic_ring : OrderedRing
quadratic_ring = record { numbers = quadratics; laws = ordered_ring }

-- ---- the test
pub above_positive : (a : Number) → T (above a) → Positive a
above_positive a t = grind (arith, ints, neither, first, second)

pub positive_above : (a : Number) → Positive a → T (above a)
positive_above a (neither h k z) = grind (arith, ints)
positive_above a (first h k n) = grind (arith, ints)
positive_above a (second h k n) = grind (arith, ints)

zero_parts : (p q : ℤ) → T (is_zero_part p && is_zero_part q) → number p q ≡ zero
zero_parts (pos nought) (pos nought) t = refl
zero_parts (pos nought) (pos (suc n)) t = absurd t
zero_parts (pos nought) (negsuc n) t = absurd t
zero_parts (pos (suc m)) q t = absurd t
zero_parts (negsuc m) q t = absurd t

zero_tests : T (is_zero zero)
zero_tests = tt

signed_by : (a : Number) (b c : Bool) → is_zero a ≡ b → above a ≡ c → Signed (cond b Zero (cond c Plus Minus)) a
signed_by a true c e f = zero_parts a.p a.q (rw e tt)
signed_by a false true e f = above_positive a (rw f tt)
signed_by a false false e f = elim (order_laws.trichotomy a) [
  | inl h ↦ absurd (rw f at (positive_above a h))
  | inr (inl z) ↦ absurd (rw e at (subst (λ n. T (is_zero n)) (sym z) zero_tests))
  | inr (inr h) ↦ h
]

pub signs_say : SignsSay
signs_say a = signed_by a (is_zero a) (above a) refl refl
