-- The switching lemma. Where a string bends, let one linear form be best on the way in and another on the way out. Then the first is no worse than the second
-- across the portal of the bend, or across the next one, which then has the same end: so a path may change from the first form to the second there.
-- `here`: a direction that neither the way in nor the way out has strictly to the bend's side. `later`: the portal after one where the first form is worse.
-- It rests on Cramer's rule alone.
use Rattle.std.proofs.Common.{◌≡◌, refl, inl, inr}
use Rattle.algebra.specs.Arithmetic.{Arithmetic, Nn}
use Rattle.algebra.specs.Plane.{Vec, dot, ◌⊗◌, ◌⟶◌ as ◌⇢◌, ◌⊙◌}
use Rattle.algebra.proofs.RingSolver.{CommRing, :0, ◌:+◌, ◌:-◌, ◌:*◌, :-◌, ◌:=◌, E}
use Rattle.algebra.proofs.OrderedRing.{OrderedRing, base, pos_eq, nn_eq, sign', nn_cancel, signs}
use Rattle.algebra.proofs.PlaneSolver.{◌:×◌, ring_v}
use Rattle.taut.specs.declared.Side.{Side}
use Rattle.taut.specs.declared.Side.TheVariants.{Left, Right}
use Rattle.taut.specs.Sleeve.{veer}
use Rattle.taut.proofs.Veer.{back}

module _ (K : OrderedRing) where
  abbrev N : Arithmetic
  N = K.numbers

  abbrev R : CommRing
  R = base K

  open N use {carrier as A, Pos}
  open N.ops use {nil as 𝟘, add as ◌+◌, mul as ◌*◌, neg as -◌}
  open K.laws.order use {pos_nil}

  infixl 65 ◌+◌ ◌-◌
  infixl 70 ◌*◌
  infix 75 -◌
  infix 73 ◌⟶◌
  infix 72 ◌·◌
  abbrev ◌-◌ : A → A → A
  a - b = a + - b

  abbrev ◌⟶◌ : Vec A → Vec A → Vec A
  v ⟶ w = ◌⇢◌ N v w

  abbrev ◌·◌ : Vec A → Vec A → A
  f · v = ◌⊙◌ N f v

  -- ---- the switching lemma; f and f' are the forms before and after the bend, a and c the directions, d and d' lead across the two portals
  turned_over : (t : Side) (a c d f f' : Vec A) → veer N t d c * (f · a - f' · a) + veer N t d a * (f' · c - f · c) ≡ veer N t a c * (f · d - f' · d)
  unfolding ◌⊗◌ ◌⊙◌
  turned_over Left = ring_v R 5 0 (λ a c d f g. d :× c :* (dot E f a :- dot E g a) :+ d :× a :* (dot E g c :- dot E f c) := a :× c :* (dot E f d :- dot E g d)) refl
  turned_over Right = ring_v R 5 0 (λ a c d f g. c :× d :* (dot E f a :- dot E g a) :+ a :× d :* (dot E g c :- dot E f c) := c :× a :* (dot E f d :- dot E g d)) refl

  beyond : (t : Side) (a d e f f' : Vec A) → veer N t a e * - (f · d - f' · d) + veer N t d a * - (f · e - f' · e) + veer N t d e * (f · a - f' · a) ≡ 𝟘
  unfolding ◌⊗◌ ◌⊙◌
  beyond Left = ring_v R 5 0 (λ a d e f g. a :× e :* :- (dot E f d :- dot E g d) :+ d :× a :* :- (dot E f e :- dot E g e) :+ d :× e :* (dot E f a :- dot E g a) := :0) refl
  beyond Right = ring_v R 5 0 (λ a d e f g. e :× a :* :- (dot E f d :- dot E g d) :+ a :× d :* :- (dot E f e :- dot E g e) :+ e :× d :* (dot E f a :- dot E g a) := :0) refl

  module _ (t : Side) (a c f f' : Vec A) (ac : Pos (veer N t a c)) (fa : Nn N (f · a - f' · a)) (fc : Nn N (f' · c - f · c)) where
    pub here : (d : Vec A) → Nn N (veer N t d a) → Nn N (veer N t d c) → Nn N (f · d - f' · d)
    here d da dc = nn_cancel K ac (nn_eq K (turned_over t a c d f f') (search signs))

    pub later : (d e : Vec A) → Nn N (veer N t d a) → Pos (veer N t d e) → Nn N (veer N t e c) → Pos (- (f · d - f' · d)) → Nn N (f · e - f' · e)
    later d e da de ec fd = elim (sign' K (veer N t a e)) [
      | inl ae ↦ record { not_neg = λ fe. pos_nil (pos_eq K (beyond t a d e f f') (search signs)) }
      | inr ea ↦ here e (nn_eq K (back K t a e) ea) ec
    ]
