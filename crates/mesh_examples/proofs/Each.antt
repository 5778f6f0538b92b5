-- What holds at 0, 1, .. up to n, written out, holds at every place below n.
use Rattle.std.proofs.Common.{◌≡◌, ℕ, zero, suc, ◌+◌, ◌<◌, subst, inl, inr, arith}
use Rattle.std.proofs.lemmas.Bool.Decides.{leb_tells}

abbrev pub Each : (ℕ → Type 0) → ℕ → Type 0
Each P zero = Unit {0}
Each P (suc n) = Each P n × P n

abbrev pub Below : (ℕ → Type 0) → ℕ → Type 0
Below P n = (k : ℕ) → k < n → P k

infixl 20 ◌▸◌
abbrev pub ◌▸◌ : {A B : Type 0} → A → B → A × B
a ▸ b = (a, b)

pub each : (P : ℕ → Type 0) (n : ℕ) → Each P n → Below P n
each P zero all k b = absurd (omega arith)
each P (suc n) all k b =
    elim (leb_tells (k + 1) n) [
      | inl low ↦ each P n all.0 k (omega (arith, low.1))
      | inr top ↦ let same : n ≡ k = omega (arith, top.1) in subst P same all.1
    ]
