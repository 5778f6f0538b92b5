-- Whole numbers among the numbers: they are not negative, and a difference of whole numbers is one.
use Rattle.std.proofs.Common.{◌≡◌, ℕ, zero, suc, ◌-◌ as ◌∸◌, ◌≤◌, refl, ap, ◌∙◌, arith}
use Rattle.algebra.specs.Arithmetic.{Arithmetic, Nn}
use Rattle.algebra.proofs.RingSolver.{CommRing, :0, :1, ◌:+◌, ◌:-◌, :-◌, ◌:=◌, ring}
use Rattle.algebra.proofs.OrderedRing.{OrderedRing, base, nn_pos, nn_nil, nn_add}
use Rattle.taut.specs.Lengths.{whole}

module _ (K : OrderedRing) where
  abbrev N : Arithmetic
  N = K.numbers

  abbrev R : CommRing
  R = base K

  open N use {carrier as A}
  open N.ops use {add as ◌+◌, neg as -◌}

  infixl 65 ◌+◌ ◌-◌
  infix 75 -◌
  abbrev ◌-◌ : A → A → A
  a - b = a + - b

  pub whole_nn : (n : ℕ) → Nn N (whole N n)
  whole_nn zero = nn_nil K
  whole_nn (suc n) = nn_add K (nn_pos K K.laws.order.pos_one) (whole_nn n)

  pub whole_less : (D j : ℕ) → j ≤ D → whole N (D ∸ j) ≡ whole N D - whole N j
  whole_less D zero h = ap (whole N) (omega arith) ∙ ring R 1 (λ a. a := a :- :0) refl (whole N D)
  whole_less zero (suc j) h = absurd (omega arith)
  whole_less (suc D) (suc j) h = ap (whole N) (omega arith) ∙ whole_less D j (omega arith) ∙ ring R 2 (λ a b. a :- b := (:1 :+ a) :- (:1 :+ b)) refl (whole N D) (whole N j)
