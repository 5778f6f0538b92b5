-- Two strings that are still at one vertex x. A witness h lies strictly to one side of both pieces, so they are neither opposite nor nothing; x is not in front of the portal;
-- an end of the portal on a piece's line is not behind x. This stays so while both pass (`onward`), and where they part nothing in front of the portal lies between them (`clear`).
use mathlib.Core.Path.{◌≡◌, sym, subst}
use mathlib.Core.Logic.{inl, inr}
use Rattle.algebra.specs.Arithmetic.{Arithmetic, Nn}
use Rattle.algebra.specs.Plane.{Vec, ◌⟶◌ as ◌⇢◌}
use Rattle.algebra.proofs.RingSolver.{CommRing}
use Rattle.algebra.proofs.OrderedRing.{OrderedRing, base, pos_eq, nn_eq, nn_pos, nn_nil, nn_split, sign, nn_add, signs}
use Rattle.taut.specs.declared.Side.{Side}
use Rattle.taut.specs.Sleeve.{other, Portal, end, veer}
use Rattle.taut.specs.TautString.{Crosses}
use Rattle.taut.proofs.Veer.{swap, back, pluecker, cross_sum, fore_sum}
use Rattle.taut.proofs.Sides.{both}
use Rattle.taut.proofs.Along.{along_pos}
use Rattle.taut.proofs.Parting.{InFront, Gapless}
use Rattle.taut.proofs.Facing.{zero_back, zero_side, facing, not_behind, all_faces}

module _ (K : OrderedRing) where
  abbrev N : Arithmetic
  N = K.numbers

  abbrev R : CommRing
  R = base K

  open N use {carrier as A, Pos}
  open N.ops use {nil as 𝟘, add as ◌+◌, mul as ◌*◌, neg as -◌}
  open K.laws.order use {pos_nil}

  infixl 65 ◌+◌
  infixl 70 ◌*◌
  infix 75 -◌
  infix 73 ◌⟶◌
  abbrev ◌⟶◌ : Vec A → Vec A → Vec A
  v ⟶ w = ◌⇢◌ N v w

  pub nn_zero : {a : A} → a ≡ 𝟘 → Nn N a
  nn_zero h = nn_eq K (sym h) (nn_nil K)

  -- both strings at x, which is not in front of p; no end of p on the line of the piece lies behind x
  pub record Common (x : Vec A) (p : Portal A) (w w' : Vec A) : Type 0 where
    pub side : Side
    pub h : Vec A
    pub on : Pos (veer N side (x ⟶ w) h)
    pub on' : Pos (veer N side (x ⟶ w') h)
    pub faces : (t : Side) → Nn N (veer N t (x ⟶ (end (other t) p).point) (x ⟶ (end t p).point))
    pub ahead : (r : Side) → veer N r (x ⟶ w) (x ⟶ (end r p).point) ≡ 𝟘 → Nn N (veer N side (x ⟶ (end r p).point) h)
    pub ahead' : (r : Side) → veer N r (x ⟶ w') (x ⟶ (end r p).point) ≡ 𝟘 → Nn N (veer N side (x ⟶ (end r p).point) h)

  pub turned : {x : Vec A} {p : Portal A} {w w' : Vec A} → Common x p w w' → Common x p w' w
  turned c = record { side = c.side; h = c.h; on = c.on'; on' = c.on; faces = c.faces; ahead = c.ahead'; ahead' = c.ahead }

  -- where they part, nothing in front lies between them
  pub clear : (t : Side) (x : Vec A) (p : Portal A) (w w' : Vec A) → Common x p w w' → Crosses N x w p → Crosses N x w' p → Nn N (veer N t (x ⟶ w') (x ⟶ w)) → Gapless K t p x w x w'
  clear t x p w w' c cp cp' ww = λ z fz dk kd.
      let f : Vec A = (end t p).point in
      let o : Vec A = (end (other t) p).point in
      let fa : Nn N (veer N t (x ⟶ o) (x ⟶ f)) = c.faces t in
      let gk : Pos (veer N t (f ⟶ o) (x ⟶ z)) = pos_eq K (fore_sum K t x f o z) (search signs) in
      let od : Nn N (veer N t (x ⟶ o) (x ⟶ w)) = nn_eq K (swap K t (x ⟶ w) (x ⟶ o)) (cp (other t)) in
      let od' : Nn N (veer N t (x ⟶ o) (x ⟶ w')) = nn_eq K (swap K t (x ⟶ w') (x ⟶ o)) (cp' (other t)) in
      let gd : Nn N (veer N t (f ⟶ o) (x ⟶ w)) = nn_eq K (cross_sum K t x f o (x ⟶ w)) (nn_add K od (cp t)) in
      let gd' : Nn N (veer N t (f ⟶ o) (x ⟶ w')) = nn_eq K (cross_sum K t x f o (x ⟶ w')) (nn_add K od' (cp' t)) in
      elim (nn_split K ww) [
        | inl p ↦ pos_nil (pos_eq K (pluecker K t (f ⟶ o) (x ⟶ w) (x ⟶ w') (x ⟶ z)) (search signs depth 8))
        | inr q ↦ kd.not_neg (pos_eq K (sym (back K t (x ⟶ z) (x ⟶ w'))) (along_pos K c.side t (x ⟶ w) c.h (x ⟶ w') (x ⟶ z) (zero_side K t c.side (x ⟶ w) (x ⟶ w') (zero_back K t (x ⟶ w') (x ⟶ w) q)) c.on c.on' dk))
      ]

  -- ---- from p to q, which keeps the end on the other side: straight on
  module _ (t : Side) (p q : Portal A) (kept : end (other t) q ≡ end (other t) p) (fr : InFront K t p (end t q).point) (x : Vec A) where
    abbrev f : Vec A
    f = (end t p).point

    abbrev o : Vec A
    o = (end (other t) p).point

    abbrev z : Vec A
    z = (end t q).point

    beside : (w : Vec A) → Crosses N x w p → Nn N (veer N t (x ⟶ o) (x ⟶ w))
    beside w cp = nn_eq K (swap K t (x ⟶ w) (x ⟶ o)) (cp (other t))

    faced : (w w' : Vec A) → Common x p w w' → Crosses N x w p → Crosses N x w q → Nn N (veer N t (x ⟶ o) (x ⟶ z))
    faced w w' c cp cq = facing K t c.side x (x ⟶ w) c.h f o z fr (beside w cp) (cp t) (c.faces t) c.on (cq t) (c.ahead (other t))

    aheads : (w w' : Vec A) (c : Common x p w w') → Crosses N x w p → veer N t (x ⟶ w) (x ⟶ z) ≡ 𝟘 → Nn N (veer N c.side (x ⟶ z) c.h)
    aheads w w' c cp e = elim (sign K (veer N c.side (x ⟶ z) c.h)) [
      | inl g ↦ g
      | inr n ↦ absurd (not_behind K t c.side x (x ⟶ w) c.h f o z fr (beside w cp) (cp t) (c.faces t) c.on e (nn_pos K (pos_eq K (back K c.side (x ⟶ z) c.h) n)))
    ]

    pub onward : (w w' : Vec A) → Common x p w w' → Crosses N x w p → Crosses N x w q → Crosses N x w' p → Crosses N x w' q → Common x q w w'
    unfolding turned
    onward w w' c cp cq cp' cq' = record {
      side = c.side;
      h = c.h;
      on = c.on;
      on' = c.on';
      faces = all_faces K t q x (subst (λ m. Nn N (veer N t (x ⟶ m.point) (x ⟶ z))) (sym kept) (faced w w' c cp cq));
      ahead = both t (λ r. veer N r (x ⟶ w) (x ⟶ (end r q).point) ≡ 𝟘 → Nn N (veer N c.side (x ⟶ (end r q).point) c.h)) (aheads w w' c cp) (subst (λ m. veer N (other t) (x ⟶ w) (x ⟶ m.point) ≡ 𝟘 → Nn N (veer N c.side (x ⟶ m.point) c.h)) (sym kept) (c.ahead (other t)));
      ahead' = both t (λ r. veer N r (x ⟶ w') (x ⟶ (end r q).point) ≡ 𝟘 → Nn N (veer N c.side (x ⟶ (end r q).point) c.h)) (aheads w' w (turned c) cp') (subst (λ m. veer N (other t) (x ⟶ w') (x ⟶ m.point) ≡ 𝟘 → Nn N (veer N c.side (x ⟶ m.point) c.h)) (sym kept) (c.ahead' (other t)));
    }
