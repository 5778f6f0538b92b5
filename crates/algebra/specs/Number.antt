-- Number        p + q√2 with whole p and q
-- ◌⊕◌ ◌⊛◌ minus ◌⊖◌   sum, product, opposite and difference
-- zero one      0 and 1
-- Positive      which numbers are positive; all others but 0 are negative
-- above         the same as a test; is_zero tests for 0
-- sign          minus, zero or plus
-- magnitude     a number without its sign
-- compare       less, equal or greater, by the sign of the difference
-- Signed        what a sign says of a number
-- quadratics    the numbers with their operations and order, for the abstract laws
-- OrderedRing   that they are an ordered commutative ring
-- SignsSay      that the sign is the right one for every number
-- CloseCalls    signs of numbers near 0, at which a decimal for √2 goes wrong
use Rattle.std.specs.Prelude.{◌≡◌, zero as nought, suc, Bool, true, false, cond, ◌&&◌, ◌||◌, ℤ, pos, negsuc, ◌+ℤ◌, ◌*ℤ◌, neg_ℤ, ◌≤ℤ◌, ◌<ℤ◌, int_lt}
use Rattle.std.specs.declared.cmp.Ordering.{Ordering}
use Rattle.std.specs.declared.cmp.Ordering.TheVariants.{Less, Equal, Greater}
use Rattle.algebra.specs.declared.Sign.{Sign}
use Rattle.algebra.specs.declared.Sign.TheVariants.{Minus, Zero, Plus}
use Rattle.algebra.specs.Arithmetic.{Ops, Arithmetic, OrderedRingLaws}

pub record Number : Type 0 where
  pub p : ℤ
  pub q : ℤ

abbrev pub number : ℤ → ℤ → Number
number a b = record { p = a; q = b }

infixl 65 ◌⊕◌ ◌⊖◌
infixl 70 ◌⊛◌
abbrev pub ◌⊕◌ : Number → Number → Number
a ⊕ b = number (a.p +ℤ b.p) (a.q +ℤ b.q)

-- (p + q√2)(r + s√2) = pr + 2qs + (ps + qr)√2
abbrev pub ◌⊛◌ : Number → Number → Number
a ⊛ b = number (a.p *ℤ b.p +ℤ (a.q *ℤ b.q +ℤ a.q *ℤ b.q)) (a.p *ℤ b.q +ℤ a.q *ℤ b.p)

abbrev pub minus : Number → Number
minus a = number (neg_ℤ a.p) (neg_ℤ a.q)

abbrev pub ◌⊖◌ : Number → Number → Number
a ⊖ b = a ⊕ minus b

abbrev pub zero : Number
zero = number (pos 0) (pos 0)

abbrev pub one : Number
one = number (pos 1) (pos 0)

abbrev pub square : ℤ → ℤ
square n = n *ℤ n

abbrev pub twice_square : ℤ → ℤ
twice_square n = square n +ℤ square n

-- no part negative and one not 0; or p > 0 > q and p² > 2q²; or q > 0 > p and 2q² > p²
pub data Positive (a : Number) : Type 0 where
  neither : pos 0 ≤ℤ a.p → pos 0 ≤ℤ a.q → ¬ ((a.p ≡ pos 0) × (a.q ≡ pos 0)) → Positive a
  first : pos 0 <ℤ a.p → a.q <ℤ pos 0 → twice_square a.q <ℤ square a.p → Positive a
  second : pos 0 <ℤ a.q → a.p <ℤ pos 0 → square a.p <ℤ twice_square a.q → Positive a

abbrev pub is_zero_part : ℤ → Bool
is_zero_part (pos nought) = true
is_zero_part (pos (suc n)) = false
is_zero_part (negsuc n) = false

abbrev pub above : Number → Bool
above a =
    cond (int_lt a.p (pos 0)) (int_lt (pos 0) a.q && int_lt (square a.p) (twice_square a.q))
    (cond (int_lt a.q (pos 0)) (int_lt (twice_square a.q) (square a.p)) (int_lt (pos 0) a.p || int_lt (pos 0) a.q))

abbrev pub is_zero : Number → Bool
is_zero a = is_zero_part a.p && is_zero_part a.q

-- every number that is neither zero nor positive is negative
abbrev pub sign : Number → Sign
sign a = cond (is_zero a) Zero (cond (above a) Plus Minus)

abbrev pub signless : Sign → Number → Number
signless Minus a = minus a
signless Zero a = a
signless Plus a = a

abbrev pub magnitude : Number → Number
magnitude a = signless (sign a) a

abbrev pub ordering : Sign → Ordering
ordering Minus = Less
ordering Zero = Equal
ordering Plus = Greater

abbrev pub compare : Number → Number → Ordering
compare a b = ordering (sign (a ⊖ b))

abbrev pub Signed : Sign → Number → Type 0
Signed Plus a = Positive a
Signed Zero a = a ≡ zero
Signed Minus a = Positive (minus a)

abbrev pub SignsSay : Type 0
SignsSay = (a : Number) → Signed (sign a) a

abbrev pub quadratic_ops : Ops Number
quadratic_ops = record { nil = zero; one = one; add = ◌⊕◌; mul = ◌⊛◌; neg = minus }

abbrev pub quadratics : Arithmetic
quadratics = record { carrier = Number; ops = quadratic_ops; Pos = Positive }

abbrev pub OrderedRing : Type 0
OrderedRing = OrderedRingLaws quadratics

-- 7 − 5√2 < 0 < 17 − 12√2, and 239 − 169√2 < 0
abbrev pub CloseCalls : Type 0
CloseCalls = (sign (number (pos 7) (negsuc 4)) ≡ Minus) × (sign (number (pos 17) (negsuc 11)) ≡ Plus) × (sign (number (pos 239) (negsuc 168)) ≡ Minus)
