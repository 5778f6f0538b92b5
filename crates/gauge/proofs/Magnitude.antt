-- |dx| + |dy| is the largest value of the forms (±1, ±1), and the larger of |dx| and |dy| that of (±1, 0), (0, ±1).
use Rattle.std.proofs.Common.{◌≡◌, ◌⊎◌, sym, refl, ◌∙◌, subst, inl, inr}
use Rattle.algebra.specs.Arithmetic.{Nn}
use Rattle.algebra.specs.Number.{Number, minus, sign, Signed, signless, magnitude, ◌⊕◌, quadratics}
use Rattle.algebra.specs.Order.{AtMost}
use Rattle.algebra.specs.Plane.{Vec}
use Rattle.algebra.specs.declared.Sign.{Sign}
use Rattle.algebra.specs.declared.Sign.TheVariants.{Minus, Zero, Plus}
use Rattle.algebra.proofs.RingSolver.{ring, ◌:+◌, ◌:-◌, ◌:*◌, :-◌, ◌:=◌, :0, :1}
use Rattle.algebra.proofs.OrderedRing.{OrderedRing, base, nn_eq, nn_pos, nn_nil, nn_add}
use Rattle.algebra.proofs.NumberOrder.{at_most_refl, at_most_trans, at_most_add}
use Rattle.algebra.proofs.Quadratics.{quadratic_ring, signs_say}
use Rattle.gauge.specs.Measure.{Form, at, larger, measure, Among}
use Rattle.gauge.specs.Forms.{unit, back, nought, l1_forms, maximum_forms}
use Rattle.gauge.proofs.Largest.{larger_first, larger_second, larger_is, measure_is}

abbrev K : OrderedRing
K = quadratic_ring

-- ---- a magnitude is the number or its opposite, and not below either
record Magnitude (a m : Number) : Type 0 where
  pub forth : AtMost a m
  pub back : AtMost (minus a) m
  pub is : (m ≡ a) ⊎ (m ≡ minus a)

-- a number that is not negative is not below its opposite
upright : (a : Number) → Nn quadratics a → AtMost (minus a) a
upright a h = record { gap = nn_eq K (ring (base K) 1 (λ a. a :+ a := a :- (:- a)) refl a) (nn_add K {a = a} {b = a} h h) }

by_sign : (s : Sign) (a : Number) → Signed s a → Magnitude a (signless s a)
by_sign Plus a h = record { forth = at_most_refl a; back = upright a (nn_pos K h); is = inl refl }
by_sign Zero a h = record { forth = at_most_refl a; back = upright a (nn_eq K (sym h) (nn_nil K)); is = inl refl }
by_sign Minus a h = record { forth = subst (λ n. AtMost n (minus a)) (ring (base K) 1 (λ a. :- (:- a) := a) refl a) (upright (minus a) (nn_pos K h)); back = at_most_refl (minus a); is = inr refl }

of_number : (a : Number) → Magnitude a (magnitude a)
of_number a = by_sign (sign a) a (signs_say a)

-- ---- the values of the forms
module _ (v : Vec Number) where
  abbrev a : Number
  a = v.x

  abbrev b : Number
  b = v.y

  plus_plus : a ⊕ b ≡ at (record { x = unit; y = unit }) v
  plus_plus = ring (base K) 2 (λ a b. a :+ b := :1 :* a :+ :1 :* b) refl a b

  plus_minus : a ⊕ minus b ≡ at (record { x = unit; y = back }) v
  plus_minus = ring (base K) 2 (λ a b. a :+ :- b := :1 :* a :+ (:- :1) :* b) refl a b

  minus_plus : minus a ⊕ b ≡ at (record { x = back; y = unit }) v
  minus_plus = ring (base K) 2 (λ a b. (:- a) :+ b := (:- :1) :* a :+ :1 :* b) refl a b

  minus_minus : minus a ⊕ minus b ≡ at (record { x = back; y = back }) v
  minus_minus = ring (base K) 2 (λ a b. (:- a) :+ :- b := (:- :1) :* a :+ (:- :1) :* b) refl a b

  along : a ≡ at (record { x = unit; y = nought }) v
  along = ring (base K) 2 (λ a b. a := :1 :* a :+ :0 :* b) refl a b

  along_back : minus a ≡ at (record { x = back; y = nought }) v
  along_back = ring (base K) 2 (λ a b. :- a := (:- :1) :* a :+ :0 :* b) refl a b

  up : b ≡ at (record { x = nought; y = unit }) v
  up = ring (base K) 2 (λ a b. b := :0 :* a :+ :1 :* b) refl a b

  up_back : minus b ≡ at (record { x = nought; y = back }) v
  up_back = ring (base K) 2 (λ a b. :- b := :0 :* a :+ (:- :1) :* b) refl a b

  bound_by : {f g : Form} {n m : Number} → n ≡ at g v → f ≡ g → AtMost n m → AtMost (at f v) m
  bound_by {f} {g} {n} {m} e d h = subst (λ k. AtMost (at k v) m) (sym d) (subst (λ k. AtMost k m) e h)

  -- ---- the sum of the magnitudes
  module _ (m n : Number) (M : Magnitude a m) (N : Magnitude b n) where
    l1_reached : (f : Form) × Among f l1_forms × (at f v ≡ m ⊕ n)
    l1_reached = elim M.is [
      | inl e ↦ elim N.is [ inl d ↦ (record { x = unit; y = unit }, inl refl, sym plus_plus ∙ (λ i. sym e i ⊕ sym d i)) | inr d ↦ (record { x = unit; y = back }, inr (inl refl), sym plus_minus ∙ (λ i. sym e i ⊕ sym d i)) ]
      | inr e ↦ elim N.is [ inl d ↦ (record { x = back; y = unit }, inr (inr (inl refl)), sym minus_plus ∙ (λ i. sym e i ⊕ sym d i)) | inr d ↦ (record { x = back; y = back }, inr (inr (inr (inl refl))), sym minus_minus ∙ (λ i. sym e i ⊕ sym d i)) ]
    ]

    l1_bounds : (f : Form) → Among f l1_forms → AtMost (at f v) (m ⊕ n)
    l1_bounds f (inl e) = bound_by plus_plus e (at_most_add M.forth N.forth)
    l1_bounds f (inr (inl e)) = bound_by plus_minus e (at_most_add M.forth N.back)
    l1_bounds f (inr (inr (inl e))) = bound_by minus_plus e (at_most_add M.back N.forth)
    l1_bounds f (inr (inr (inr (inl e)))) = bound_by minus_minus e (at_most_add M.back N.back)
    l1_bounds f (inr (inr (inr (inr z)))) = absurd z

    -- ---- the larger of the magnitudes
    maximum_reached : (f : Form) × Among f maximum_forms × (at f v ≡ larger m n)
    maximum_reached = elim (larger_is m n) [
      | inl k ↦ elim M.is [ inl e ↦ (record { x = unit; y = nought }, inl refl, sym along ∙ sym (k ∙ e)) | inr e ↦ (record { x = back; y = nought }, inr (inl refl), sym along_back ∙ sym (k ∙ e)) ]
      | inr k ↦ elim N.is [ inl e ↦ (record { x = nought; y = unit }, inr (inr (inl refl)), sym up ∙ sym (k ∙ e)) | inr e ↦ (record { x = nought; y = back }, inr (inr (inr (inl refl))), sym up_back ∙ sym (k ∙ e)) ]
    ]

    maximum_bounds : (f : Form) → Among f maximum_forms → AtMost (at f v) (larger m n)
    maximum_bounds f (inl e) = bound_by along e (at_most_trans M.forth (larger_first m n))
    maximum_bounds f (inr (inl e)) = bound_by along_back e (at_most_trans M.back (larger_first m n))
    maximum_bounds f (inr (inr (inl e))) = bound_by up e (at_most_trans N.forth (larger_second m n))
    maximum_bounds f (inr (inr (inr (inl e)))) = bound_by up_back e (at_most_trans N.back (larger_second m n))
    maximum_bounds f (inr (inr (inr (inr z)))) = absurd z

  pub l1_is : magnitude v.x ⊕ magnitude v.y ≡ measure l1_forms v
  l1_is =
      let M = of_number a in
      let N = of_number b in
      measure_is l1_forms v _ (record { reached = l1_reached (magnitude a) (magnitude b) M N; bounds = l1_bounds (magnitude a) (magnitude b) M N })

  pub maximum_is : larger (magnitude v.x) (magnitude v.y) ≡ measure maximum_forms v
  maximum_is =
      let M = of_number a in
      let N = of_number b in
      measure_is maximum_forms v _ (record { reached = maximum_reached (magnitude a) (magnitude b) M N; bounds = maximum_bounds (magnitude a) (magnitude b) M N })
