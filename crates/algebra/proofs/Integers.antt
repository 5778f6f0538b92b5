-- The whole numbers are an ordered commutative ring.
use Rattle.std.proofs.Common.{◌≡◌, zero, suc, ◌+◌, ◌*◌, ◌⊎◌, ℤ, pos, negsuc, ◌+ℤ◌, ◌*ℤ◌, neg_ℤ, ◌<ℤ◌, refl, ap, inl, inr, arith}
use borrow.Author.Differences.{up, down, product_is, sum_is_lem, same_in}
use lib.IntN.{+ℤ_assoc, +ℤ_comm, +ℤ_idr, +ℤ_invr, *ℤ_comm}
use Rattle.std.proofs.lemmas.Int.{ints}
use Rattle.algebra.specs.Arithmetic.{RingLaws, Arithmetic}
use Rattle.algebra.proofs.OrderedRing.{OrderedRing}

up_mul : (a b : ℤ) → up (a *ℤ b) ≡ up a * up b + down a * down b
up_mul a b = (product_is a b).0

down_mul : (a b : ℤ) → down (a *ℤ b) ≡ up a * down b + down a * up b
down_mul a b = (product_is a b).1

pub mul_assoc : (a b c : ℤ) → (a *ℤ b) *ℤ c ≡ a *ℤ (b *ℤ c)
mul_assoc a b c = same_in ((a *ℤ b) *ℤ c) (a *ℤ (b *ℤ c)) (simp (up_mul, down_mul) (omega arith))

pub mul_add : (a b c : ℤ) → a *ℤ (b +ℤ c) ≡ a *ℤ b +ℤ a *ℤ c
mul_add a b c =
    let e = sum_is_lem b c in
    let f = sum_is_lem (a *ℤ b) (a *ℤ c) in
    let g : up (a *ℤ b +ℤ a *ℤ c) + (up a * down b + down a * up b) + (up a * down c + down a * up c) ≡ down (a *ℤ b +ℤ a *ℤ c) + (up a * up b + down a * down b) + (up a * up c + down a * down c) = simp (up_mul, down_mul) at f in
    same_in (a *ℤ (b +ℤ c)) (a *ℤ b +ℤ a *ℤ c) (simp (up_mul a (b +ℤ c), down_mul a (b +ℤ c)) (omega (arith, ap (λ x. up a * x) e, ap (λ x. down a * x) e)))

pub mul_one : (a : ℤ) → a *ℤ pos 1 ≡ a
mul_one a = omega (arith, ints)

abbrev pub whole_ring : RingLaws (record { nil = pos 0; one = pos 1; add = ◌+ℤ◌; mul = ◌*ℤ◌; neg = neg_ℤ })
whole_ring = record { add_assoc = +ℤ_assoc; add_comm = +ℤ_comm; add_nil = +ℤ_idr; add_neg = +ℤ_invr; mul_assoc = mul_assoc; mul_comm = *ℤ_comm; mul_one = mul_one; mul_add = mul_add }

abbrev pub Pos : ℤ → Type 0
Pos a = pos 0 <ℤ a

mul_pos : (a b : ℤ) → Pos a → Pos b → Pos (a *ℤ b)
mul_pos (pos zero) b p q = absurd (omega (arith, ints))
mul_pos (pos (suc a)) (pos zero) p q = absurd (omega (arith, ints))
mul_pos (pos (suc a)) (pos (suc b)) p q = omega (arith, ints)
mul_pos (pos (suc a)) (negsuc b) p q = absurd (omega (arith, ints))
mul_pos (negsuc a) b p q = absurd (omega (arith, ints))

pub pos_mul : {a b : ℤ} → Pos a → Pos b → Pos (a *ℤ b)
pos_mul {a} {b} p q = mul_pos a b p q

pub trichotomy : (a : ℤ) → Pos a ⊎ ((a ≡ pos 0) ⊎ Pos (neg_ℤ a))
trichotomy (pos zero) = inr (inl refl)
trichotomy (pos (suc n)) = inl (omega (arith, ints))
trichotomy (negsuc n) = inr (inr (omega (arith, ints)))

pub pos_add : {a b : ℤ} → Pos a → Pos b → Pos (a +ℤ b)
pos_add {a} {b} p q = omega (arith, ints)

pub pos_nil : ¬ (Pos (pos 0))
pos_nil h = omega (arith, ints)

pub pos_one : Pos (pos 1)
pos_one = omega (arith, ints)

abbrev pub whole_numbers : Arithmetic
whole_numbers = record { carrier = ℤ; ops = record { nil = pos 0; one = pos 1; add = ◌+ℤ◌; mul = ◌*ℤ◌; neg = neg_ℤ }; Pos = Pos }

abbrev pub integers : OrderedRing
integers = record { numbers = whole_numbers; laws = record { ring = whole_ring; order = record { pos_one = pos_one; pos_nil = pos_nil; pos_add = pos_add; pos_mul = pos_mul; trichotomy = trichotomy } } }
