-- Two has no root among the whole numbers: p² = 2q² only if p = q = 0. By descent: p is even, and q, p/2 are a smaller pair.
use Rattle.std.proofs.Common.{◌≡◌, ℕ, zero, suc, ◌+◌, ◌*◌, ◌/◌, ◌%◌, ◌<◌, ◌≤◌, ℤ, pos, negsuc, ◌+ℤ◌, ◌*ℤ◌, nat_abs, sym, refl, ap, ◌∙◌, mul-le-mul_right, mul-le-mul_left, arith}
use native.Mathlib.Decide.{dec_lt}

-- an even square is of an even number
even : (h r m : ℕ) → r < 2 → (h * 2 + r) * (h * 2 + r) ≡ m + m → r ≡ 0
even h zero m l e = refl
even h (suc zero) m l e = absurd (omega arith)
even h (suc (suc r)) m l e = absurd (omega arith)

halved : (h q : ℕ) → (h * 2) * (h * 2) ≡ q * q + q * q → q * q ≡ h * h + h * h
halved h q e = omega arith

less : (p q : ℕ) → p * p ≡ suc q * suc q + suc q * suc q → suc q < p
less p q e = elim (dec_lt (suc q) p) [ yes h ↦ h | no n ↦ let k : p ≤ suc q = omega arith in absurd (omega (arith, mul-le-mul_left p k, mul-le-mul_right (suc q) k)) ]

none_below : (n p q : ℕ) → p < n → p * p ≡ q * q + q * q → q ≡ 0
none_below zero p q l e = absurd (omega arith)
none_below (suc n) p zero l e = refl
none_below (suc n) p (suc q) l e =
    let h : ℕ = p / 2 in
    let d : p ≡ h * 2 + p % 2 = omega arith in
    let z : p % 2 ≡ 0 = even h (p % 2) (suc q * suc q) (omega arith) (ap (λ x. x * x) (sym d) ∙ e) in
    let f : p ≡ h * 2 = omega arith in
    let g : suc q * suc q ≡ h * h + h * h = halved h (suc q) (ap (λ x. x * x) (sym f) ∙ e) in
    let w : suc q < n = omega (arith, less p q e) in
    let y : h ≡ 0 = none_below n (suc q) h w g in
    let x : suc q * suc q ≡ 0 = g ∙ ap (λ x. x * x + x * x) y in
    omega arith

square : (p : ℤ) → p *ℤ p ≡ pos (nat_abs p * nat_abs p)
square (pos n) = refl
square (negsuc n) = refl

abs_nil : (p : ℤ) → nat_abs p ≡ 0 → p ≡ pos 0
abs_nil (pos n) e = ap pos e
abs_nil (negsuc n) e = absurd (omega arith)

square_nil : (n : ℕ) → n * n ≡ 0 → n ≡ 0
square_nil zero e = refl
square_nil (suc n) e = absurd (omega arith)

pub irrational : (p q : ℤ) → p *ℤ p ≡ q *ℤ q +ℤ q *ℤ q → (p ≡ pos 0) × (q ≡ pos 0)
irrational p q e =
    let f : nat_abs p * nat_abs p ≡ nat_abs q * nat_abs q + nat_abs q * nat_abs q = ap nat_abs (sym (square p) ∙ e ∙ ap (λ x. x +ℤ x) (square q)) in
    let z : nat_abs q ≡ 0 = none_below (suc (nat_abs p)) (nat_abs p) (nat_abs q) (omega arith) f in
    (abs_nil p (square_nil (nat_abs p) (f ∙ ap (λ x. x * x + x * x) z)), abs_nil q z)
