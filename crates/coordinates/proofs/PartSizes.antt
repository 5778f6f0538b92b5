-- The products and sums of parts that the products of offsets need: how large they are, and that 64 bits hold them.
use Rattle.std.proofs.Common.{◌≡◌, ℕ, ◌+◌, ◌≤◌, ℤ, ◌+ℤ◌, ◌*ℤ◌, sym, ap, ◌∙◌, subst, arith, to_z-of_z, w64, SFits, to_z, of_z}
use Rattle.std.proofs.lemmas.Int.{ints}
use Rattle.algebra.specs.Bounds.{Within}
use Rattle.algebra.proofs.Magnitudes.{within_times}

abbrev bits : ℤ → ℤ
bits z = to_z w64 (of_z w64 z)

fits : (n : ℕ) (z : ℤ) → n ≤ 2000000000 → Within n z → SFits w64 z
fits n z h (l, u) = omega (arith, ints)

-- ---- a product of two parts
pub product_fits : (a b : ℤ) → Within 20000 a → Within 20000 b → SFits w64 (bits a *ℤ bits b)
product_fits a b h k =
    let f : SFits w64 a = fits 20000 a (omega arith) h in
    let g : SFits w64 b = fits 20000 b (omega arith) k in
    let d : SFits w64 (a *ℤ b) = fits 400000000 (a *ℤ b) (omega arith) (within_times 20000 20000 a b h k) in
    simp to_z-of_z d

pub product_is : (a b : ℤ) → Within 20000 a → Within 20000 b → bits (bits a *ℤ bits b) ≡ a *ℤ b
product_is a b h k =
    let f : SFits w64 a = fits 20000 a (omega arith) h in
    let g : SFits w64 b = fits 20000 b (omega arith) k in
    let d : SFits w64 (a *ℤ b) = fits 400000000 (a *ℤ b) (omega arith) (within_times 20000 20000 a b h k) in
    simp to_z-of_z

pub product_within : (a b : ℤ) → Within 20000 a → Within 20000 b → Within 400000000 (bits (bits a *ℤ bits b))
product_within a b h k = subst (Within 400000000) (sym (product_is a b h k)) (within_times 20000 20000 a b h k)

-- what a call answers, at the parts that it was handed
pub product_at : (a b r : ℤ) → Within 20000 a → Within 20000 b → r ≡ bits a *ℤ bits b → r ≡ a *ℤ b
product_at a b r h k e =
    let f : SFits w64 a = fits 20000 a (omega arith) h in
    let g : SFits w64 b = fits 20000 b (omega arith) k in
    simp to_z-of_z at e

-- ---- sums of parts
pub added : {a b c d : ℤ} → a ≡ c → b ≡ d → a +ℤ b ≡ c +ℤ d
added e f = λ i. e i +ℤ f i

-- ---- the two sums of a product of offsets, as the code makes them
pub double_fits : (b : ℤ) → Within 400000000 b → SFits w64 (bits b +ℤ bits b)
double_fits b (l, u) =
    let f : SFits w64 b = fits 400000000 b (omega arith) (l, u) in
    let d : SFits w64 (b +ℤ b) = omega (arith, ints) in
    simp to_z-of_z d

pub sum_fits : (a b : ℤ) → Within 400000000 a → Within 800000000 b → SFits w64 (bits a +ℤ bits b)
sum_fits a b (al, au) (bl, bu) =
    let f : SFits w64 a = fits 400000000 a (omega arith) (al, au) in
    let g : SFits w64 b = fits 800000000 b (omega arith) (bl, bu) in
    let d : SFits w64 (a +ℤ b) = omega (arith, ints) in
    simp to_z-of_z d

pub sum_is : (m n : ℕ) (a b : ℤ) → m ≤ 1000000000 → n ≤ 1000000000 → Within m a → Within n b → bits (bits a +ℤ bits b) ≡ a +ℤ b
sum_is m n a b hm hn (al, au) (bl, bu) =
    let f : SFits w64 a = fits m a (omega arith) (al, au) in
    let g : SFits w64 b = fits n b (omega arith) (bl, bu) in
    let d : SFits w64 (a +ℤ b) = omega (arith, ints) in
    simp to_z-of_z

pub within_sum : (m n : ℕ) (a b : ℤ) → Within m a → Within n b → Within (m + n) (a +ℤ b)
within_sum m n a b (al, au) (bl, bu) = (omega (arith, ints), omega (arith, ints))

pub double_is : (b : ℤ) → Within 400000000 b → bits b +ℤ bits b ≡ b +ℤ b
double_is b w =
    let f : SFits w64 b = fits 400000000 b (omega arith) w in
    simp to_z-of_z

pub within_double : (b : ℤ) → Within 400000000 b → Within 800000000 (bits b +ℤ bits b)
within_double b w = subst (Within 800000000) (sym (double_is b w)) (within_sum 400000000 400000000 b b w w)

pub area_is : (a b : ℤ) → Within 400000000 a → Within 400000000 b → bits (bits a +ℤ bits (bits b +ℤ bits b)) ≡ a +ℤ (b +ℤ b)
area_is a b v w = sum_is 400000000 800000000 a (bits b +ℤ bits b) (omega arith) (omega arith) v (within_double b w) ∙ ap (λ n. a +ℤ n) (double_is b w)

pub within_area : (a b : ℤ) → Within 400000000 a → Within 400000000 b → Within 1200000000 (bits (bits a +ℤ bits (bits b +ℤ bits b)))
within_area a b v w = subst (Within 1200000000) (sym (area_is a b v w)) (within_sum 400000000 800000000 a (b +ℤ b) v (within_sum 400000000 400000000 b b w w))

pub within_pair : (a b : ℤ) → Within 400000000 a → Within 400000000 b → Within 1200000000 (bits (bits a +ℤ bits b))
within_pair a b v (l, u) = subst (Within 1200000000) (sym (sum_is 400000000 400000000 a b (omega arith) (omega arith) v (l, u))) (within_sum 400000000 800000000 a b v (omega (arith, ints), omega (arith, ints)))

pub pair_fits : (a b : ℤ) → Within 400000000 a → Within 400000000 b → SFits w64 (bits a +ℤ bits b)
pair_fits a b v (l, u) = sum_fits a b v (omega (arith, ints), omega (arith, ints))
