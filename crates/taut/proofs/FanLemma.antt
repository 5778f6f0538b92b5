-- The fan lemma. Rays r, rs turn to one side and h comes before them; they do not come round to h. Let the direction u lie in one of their sectors.
-- If r is strictly to that side of u, so is h: along the row, the other way round, this truth never goes back to false once -u has been passed.
-- Before the half turn from h the rays are in the order of their cross products (`first`); past it they stay there, by the bound (`second`).
use Rattle.std.proofs.Common.{List, [], ◌∷◌, sym, ap, ◌∙◌, inl, inr}
use Rattle.algebra.specs.Arithmetic.{Arithmetic, Nn}
use Rattle.algebra.specs.Plane.{Vec}
use Rattle.algebra.proofs.RingSolver.{CommRing, nil_mul}
use Rattle.algebra.proofs.OrderedRing.{OrderedRing, base, pos_eq, nn_eq, nn_pos, nn_split, sign', pos_cancel, signs}
use Rattle.taut.specs.declared.Side.{Side}
use Rattle.taut.specs.Sleeve.{veer}
use Rattle.taut.specs.Fan.{Sweeps, Clear, Within}
use Rattle.taut.proofs.Veer.{back, in_order, aligned, pluecker}

module _ (K : OrderedRing) (t : Side) where
  abbrev N : Arithmetic
  N = K.numbers

  abbrev R : CommRing
  R = base K

  open N use {carrier as A, Pos}
  open N.ops use {nil as 𝟘, add as ◌+◌, mul as ◌*◌, neg as -◌}
  open K.laws.order use {pos_nil}

  infixl 65 ◌+◌
  infixl 70 ◌*◌
  infix 75 -◌
  infix 72 ◌⋀◌
  abbrev ◌⋀◌ : Vec A → Vec A → A
  a ⋀ b = veer N t a b

  -- r is past the half turn from h; h, u and r₀ come in this order before it: no sector after r contains u
  second : (h u r₀ r : Vec A) (rs : List (Vec A)) → Pos (h ⋀ r₀) → Pos (u ⋀ r₀) → Nn N (h ⋀ u) → Nn N (r ⋀ h) → Sweeps N t r rs → Clear N t h r rs → Within N t u r rs → ⊥
  second h u r₀ r [] hr ur hu rh sw cl w = elim w [ ]
  second h u r₀ r (s ∷ rs) hr ur hu rh sw cl (inl i) =
      let rs' : Pos (r ⋀ s) = sw.0 in
      let sh : Pos (s ⋀ h) = elim (sign' K (s ⋀ h)) [ inl p ↦ p | inr n ↦ absurd (cl.0 (rh, nn_eq K (back K t s h) n)) ] in
      let ru : Nn N (r ⋀ u) = i.0 in
      let us : Nn N (u ⋀ s) = i.1 in
      elim (nn_split K hu) [
        | inl hu⁺ ↦ pos_nil (pos_eq K (pluecker K t r h s u) (search signs))
        | inr e ↦ pos_nil (pos_eq K (aligned K t h u r₀ s ∙ ap (λ a. a * r₀ ⋀ s) e ∙ nil_mul R (r₀ ⋀ s)) (search signs))
      ]
  second h u r₀ r (s ∷ rs) hr ur hu rh sw cl (inr w) =
      let sh : Pos (s ⋀ h) = elim (sign' K (s ⋀ h)) [ inl p ↦ p | inr n ↦ absurd (cl.0 (rh, nn_eq K (back K t s h) n)) ] in
      second h u r₀ s rs hr ur hu (nn_pos K sh) sw.1 cl.1 w

  -- h, u and r come in this order, each less than a half turn before r: no sector after r contains u
  pub first : (h u r : Vec A) (rs : List (Vec A)) → Pos (h ⋀ r) → Pos (u ⋀ r) → Nn N (h ⋀ u) → Sweeps N t r rs → Clear N t h r rs → Within N t u r rs → ⊥
  first h u r [] hr ur hu sw cl w = elim w [ ]
  first h u r (s ∷ rs) hr ur hu sw cl (inl i) = i.0.not_neg (pos_eq K (sym (back K t r u)) ur)
  first h u r (s ∷ rs) hr ur hu sw cl (inr w) =
      let rs' : Pos (r ⋀ s) = sw.0 in
      elim (sign' K (h ⋀ s)) [
        | inl hs ↦ first h u s rs hs (pos_cancel K hr (pos_eq K (in_order K t h u r s) (search signs))) hu sw.1 cl.1 w
        | inr n ↦ second h u r s rs hr ur hu (nn_eq K (back K t h s) n) sw.1 cl.1 w
      ]

  -- if r lies less than a half turn after u, so does h
  pub fan : (h u r : Vec A) (rs : List (Vec A)) → Pos (h ⋀ r) → Sweeps N t r rs → Clear N t h r rs → Within N t u r rs → Pos (u ⋀ r) → Pos (u ⋀ h)
  fan h u r rs hr sw cl w ur = elim (sign' K (u ⋀ h)) [ inl p ↦ p | inr n ↦ absurd (first h u r rs hr ur (nn_eq K (back K t u h) n) sw cl w) ]
