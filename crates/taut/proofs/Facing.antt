-- A point x that is not in front of a portal, and a direction d from it that crosses this portal and the next: x is not in front of the next portal either (`facing`);
-- and an end of the next portal on the ray's line does not lie behind x (`not_behind`). The end f is replaced by z, the end o stays. h is a witness on a side of d.
use Rattle.std.proofs.Common.{◌≡◌, sym, ap, ◌∙◌, inl, inr}
use Rattle.algebra.specs.Arithmetic.{Arithmetic, Nn}
use Rattle.algebra.specs.Plane.{Vec, ◌⟶◌ as ◌⇢◌}
use Rattle.algebra.proofs.RingSolver.{CommRing, neg_nil}
use Rattle.algebra.proofs.OrderedRing.{OrderedRing, base, pos_eq, nn_eq, nn_split, sign, nn_cancel, signs}
use Rattle.taut.specs.declared.Side.{Side}
use Rattle.taut.specs.declared.Side.TheVariants.{Left, Right}
use Rattle.taut.specs.Sleeve.{other, Portal, end, veer}
use Rattle.taut.proofs.Veer.{swap, back, three, between, between_back, between_flip, front_three, front_two}
use Rattle.taut.proofs.Along.{vanish}

module _ (K : OrderedRing) where
  abbrev N : Arithmetic
  N = K.numbers

  abbrev R : CommRing
  R = base K

  open N use {carrier as A, Pos}
  open N.ops use {nil as 𝟘, add as ◌+◌, mul as ◌*◌, neg as -◌}
  open K.laws.order use {pos_nil}

  infixl 65 ◌+◌
  infixl 70 ◌*◌
  infix 75 -◌
  infix 73 ◌⟶◌
  abbrev ◌⟶◌ : Vec A → Vec A → Vec A
  v ⟶ w = ◌⇢◌ N v w

  pub zero_back : (t : Side) (a b : Vec A) → veer N t a b ≡ 𝟘 → veer N t b a ≡ 𝟘
  zero_back t a b h = sym (back K t a b) ∙ ap -◌ h ∙ neg_nil R

  pub zero_side : (t s : Side) (a b : Vec A) → veer N t a b ≡ 𝟘 → veer N s a b ≡ 𝟘
  zero_side Left Left a b h = h
  zero_side Right Right a b h = h
  zero_side Left Right a b h = zero_back Left a b h
  zero_side Right Left a b h = zero_back Right a b h

  module _ (t side : Side) (x d h f o z : Vec A) (fr : Pos (veer N t (f ⟶ o) (f ⟶ z))) (od : Nn N (veer N t (x ⟶ o) d)) (df : Nn N (veer N t d (x ⟶ f))) (of : Nn N (veer N t (x ⟶ o) (x ⟶ f))) (dh : Pos (veer N side d h)) where
    pub facing : Nn N (veer N t d (x ⟶ z)) → (veer N (other t) d (x ⟶ o) ≡ 𝟘 → Nn N (veer N side (x ⟶ o) h)) → Nn N (veer N t (x ⟶ o) (x ⟶ z))
    facing dz ahead = elim (nn_split K od) [
      | inl od⁺ ↦ elim (sign K (veer N t (x ⟶ o) (x ⟶ z))) [
        | inl g ↦ g
        | inr n ↦
            let zo : Pos (veer N t (x ⟶ z) (x ⟶ o)) = pos_eq K (back K t (x ⟶ o) (x ⟶ z)) n in
            let zf : Pos (veer N t (x ⟶ z) (x ⟶ f)) = pos_eq K (front_two K t x f o z) (search signs) in
            absurd (pos_nil (pos_eq K (three K t d (x ⟶ f) (x ⟶ o) (x ⟶ z)) (search signs depth 8)))
      ]
      | inr e ↦
          let oh : Nn N (veer N side (x ⟶ o) h) = ahead (swap K t d (x ⟶ o) ∙ e) in
          let zero : veer N side d (x ⟶ o) ≡ 𝟘 = zero_side t side d (x ⟶ o) (zero_back t (x ⟶ o) d e) in
          nn_cancel K dh (nn_eq K (vanish K (veer N side (x ⟶ o) h * veer N t d (x ⟶ z)) (veer N side d (x ⟶ o)) (veer N side d h * veer N t (x ⟶ o) (x ⟶ z)) (veer N t h (x ⟶ z)) zero (between K side t d h (x ⟶ o) (x ⟶ z))) (search signs))
    ]

    pub not_behind : veer N t d (x ⟶ z) ≡ 𝟘 → Nn N (veer N side h (x ⟶ z)) → ⊥
    not_behind e hz =
        let zero : veer N side d (x ⟶ z) ≡ 𝟘 = zero_side t side d (x ⟶ z) e in
        let fz : Nn N (veer N t (x ⟶ f) (x ⟶ z)) = nn_cancel K dh (nn_eq K (vanish K (veer N side h (x ⟶ z) * veer N t d (x ⟶ f)) (veer N side d (x ⟶ z)) (veer N side d h * veer N t (x ⟶ f) (x ⟶ z)) (veer N t (x ⟶ f) h) zero (between_back K side t d h (x ⟶ z) (x ⟶ f))) (search signs)) in
        let zo : Nn N (veer N t (x ⟶ z) (x ⟶ o)) = nn_cancel K dh (nn_eq K (vanish K (veer N side h (x ⟶ z) * veer N t (x ⟶ o) d) (veer N side d (x ⟶ z)) (veer N side d h * veer N t (x ⟶ z) (x ⟶ o)) (veer N t h (x ⟶ o)) zero (between_flip K side t d h (x ⟶ z) (x ⟶ o))) (search signs)) in
        pos_nil (pos_eq K (front_three K t x f o z) (search signs depth 8))

  -- one side of a portal seen so is the other side seen so
  pub all_faces : (t : Side) (q : Portal A) (x : Vec A) → Nn N (veer N t (x ⟶ (end (other t) q).point) (x ⟶ (end t q).point)) → (s : Side) → Nn N (veer N s (x ⟶ (end (other s) q).point) (x ⟶ (end s q).point))
  all_faces Left q x n Left = n
  all_faces Left q x n Right = n
  all_faces Right q x n Left = n
  all_faces Right q x n Right = n
