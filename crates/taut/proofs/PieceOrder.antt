-- The order of portals along a piece. A point x lies before a portal, seen along a direction d that crosses it, if it is not in front of the portal and every end of the portal on its line lies strictly ahead (`Before`).
-- This stays so from portal to portal (`before_next`). So a piece whose end lies before a portal is never completed after it (`never_reached`): portals crossed by one straight piece are met in order along it.
-- A point strictly behind a portal lies before it (`before_behind`).
use Rattle.std.proofs.Common.{◌≡◌, List, [], ◌∷◌, sym, ap, ◌∙◌, subst, inl, inr}
use Rattle.algebra.specs.Arithmetic.{Arithmetic, Nn}
use Rattle.algebra.specs.Plane.{Vec, ◌⟶◌ as ◌⇢◌}
use Rattle.algebra.proofs.RingSolver.{CommRing}
use Rattle.algebra.proofs.OrderedRing.{OrderedRing, base, pos_eq, nn_eq, nn_pos, nn_split, sign', nn_add, nn_both}
use Rattle.taut.specs.declared.Side.{Side}
use Rattle.taut.specs.declared.Side.TheVariants.{Left, Right}
use Rattle.taut.specs.Sleeve.{other, Portal, end, veer, Front, Behind, Link, Ahead}
use Rattle.taut.specs.TautString.{Bend, Crosses, aim}
use Rattle.taut.specs.Fan.{origin}
use Rattle.taut.proofs.Sides.{both}
use Rattle.taut.proofs.Veer.{swap, back, still, from_head, cyc, at_head, behind_is, left_end, right_end, sum_through}
use Rattle.taut.proofs.Portals.{front, back_nn}
use Rattle.taut.proofs.Thread.{Thread, arrive, pass, bend_at, crossing}
use Rattle.taut.proofs.Along.{along_both, axes}
use Rattle.taut.proofs.Facing.{facing, not_behind, all_faces}

module _ (K : OrderedRing) where
  abbrev N : Arithmetic
  N = K.numbers

  abbrev R : CommRing
  R = base K

  open N use {carrier as A, Pos}
  open N.ops use {nil as 𝟘, add as ◌+◌, mul as ◌*◌, neg as -◌}
  open K.laws.order use {pos_nil}

  infixl 65 ◌+◌
  infixl 70 ◌*◌
  infix 75 -◌
  infix 73 ◌⟶◌
  abbrev ◌⟶◌ : Vec A → Vec A → Vec A
  v ⟶ w = ◌⇢◌ N v w

  -- the line from x along d crosses the portal
  abbrev pub RayCrosses : Vec A → Vec A → Portal A → Type 0
  RayCrosses x d p = (t : Side) → Nn N (veer N t d (x ⟶ (end t p).point))

  pub record Before (x d : Vec A) (p : Portal A) : Type 0 where
    pub side : Side
    pub h : Vec A
    pub on : Pos (veer N side d h)
    pub faces : (t : Side) → Nn N (veer N t (x ⟶ (end (other t) p).point) (x ⟶ (end t p).point))
    pub ahead : (r : Side) → veer N r d (x ⟶ (end r p).point) ≡ 𝟘 → Pos (veer N side (x ⟶ (end r p).point) h)

  -- ---- from a portal to the next, which keeps the end on the other side
  module _ (t : Side) (p q : Portal A) (kept : end (other t) q ≡ end (other t) p) (fr : Front N p (end t q).point) (x d : Vec A) (b : Before x d p) (cp : RayCrosses x d p) (cq : RayCrosses x d q) where
    open b use {side, h, on, faces, ahead}

    abbrev f : Vec A
    f = (end t p).point

    abbrev o : Vec A
    o = (end (other t) p).point

    abbrev z : Vec A
    z = (end t q).point

    od : Nn N (veer N t (x ⟶ o) d)
    od = nn_eq K (swap K t d (x ⟶ o)) (cp (other t))

    new_ahead : veer N t d (x ⟶ z) ≡ 𝟘 → Pos (veer N side (x ⟶ z) h)
    new_ahead e = elim (sign' K (veer N side (x ⟶ z) h)) [
      | inl g ↦ g
      | inr n ↦ absurd (not_behind K t side x d h f o z (front K t p z fr) od (cp t) (faces t) on e (back_nn K side (x ⟶ z) h n))
    ]

    before_on : Before x d q
    before_on = record {
      side = side;
      h = h;
      on = on;
      faces = all_faces K t q x (subst (λ m. Nn N (veer N t (x ⟶ m.point) (x ⟶ z))) (sym kept) (facing K t side x d h f o z (front K t p z fr) od (cp t) (faces t) on (cq t) (λ e. nn_pos K (ahead (other t) e))));
      ahead = both t (λ r. veer N r d (x ⟶ (end r q).point) ≡ 𝟘 → Pos (veer N side (x ⟶ (end r q).point) h)) new_ahead (subst (λ m. veer N (other t) d (x ⟶ m.point) ≡ 𝟘 → Pos (veer N side (x ⟶ m.point) h)) (sym kept) (ahead (other t)));
    }

  pub before_next : (p q : Portal A) → Link N p q → (x d : Vec A) → Before x d p → RayCrosses x d p → RayCrosses x d q → Before x d q
  before_next p q (inl k) x d b cp cq = before_on Right p q k.0 k.1 x d b cp cq
  before_next p q (inr k) x d b cp cq = before_on Left p q k.0 k.1 x d b cp cq

  -- ---- a piece is crossed seen from its end as well
  pub from_end : (v w : Vec A) (p : Portal A) → Crosses N v w p → RayCrosses w (v ⟶ w) p
  from_end v w p c t = nn_eq K (from_head K t v w (end t p).point) (c t)

  not_end : (v w : Vec A) (p : Portal A) (b : Before w (v ⟶ w) p) (t : Side) → (end t p).point ≡ w → ⊥
  not_end v w p b t is = pos_nil (pos_eq K (still K b.side w b.h) (subst (λ u. Pos (veer N b.side (w ⟶ u) b.h)) is (b.ahead t (subst (λ u. veer N t (v ⟶ w) (w ⟶ u) ≡ 𝟘) (sym is) (at_head K t v w)))))

  not_front : (x d : Vec A) (p : Portal A) → Before x d p → Front N p x → ⊥
  not_front x d p b f = (b.faces Left).not_neg (pos_eq K (cyc K Left p.left.point p.right.point x ∙ cyc K Left p.right.point x p.left.point ∙ sym (back K Left (x ⟶ p.right.point) (x ⟶ p.left.point))) f)

  module _ (e : Vec A) where
    pub never_reached : (ps : List (Portal A)) (p : Portal A) → Ahead N e p ps → (v : Vec A) (bs : List (Bend A)) → Before (aim N e bs) (v ⟶ aim N e bs) p → Thread N e v (p ∷ ps) bs → ⊥
    never_reached [] p h v bs b (pass c arrive) = not_front e (v ⟶ e) p b h
    never_reached (q ∷ ps) p h v bs b (pass c st) = never_reached ps q h.1 v bs (before_next p q h.0 (aim N e bs) (v ⟶ aim N e bs) b (from_end v (aim N e bs) p c) (from_end v (aim N e bs) q (crossing N st))) st
    never_reached ps p h v bs₀ b (bend_at {b = b₁} {bs = bs} c is tu st) = not_end v b₁.vertex.point p b b₁.side (ap (λ m. m.point) is)

  -- ---- what lies strictly behind a portal lies before it
  pub goes_through : (p : Portal A) (x d : Vec A) → Pos (veer N Left (x ⟶ p.right.point) (x ⟶ p.left.point)) → RayCrosses x d p → ¬ (d ≡ origin N) → Pos (veer N Right d (p.left.point ⟶ p.right.point))
  goes_through p x d h c ne = elim (nn_split K (nn_add K (c Right) (c Left))) [
    | inl g ↦ pos_eq K (sum_through K p.left.point p.right.point x d) g
    | inr z ↦
        let two : (veer N Right d (x ⟶ p.right.point) ≡ 𝟘) × (veer N Left d (x ⟶ p.left.point) ≡ 𝟘) = nn_both K (c Right) (c Left) z in
        absurd (ne (axes K Left d (λ y. along_both K Left (x ⟶ p.right.point) (x ⟶ p.left.point) d y h two.0 two.1)))
  ]

  pub before_behind : (p : Portal A) (x d : Vec A) → Behind N p x → RayCrosses x d p → ¬ (d ≡ origin N) → Before x d p
  before_behind p x d bh c ne =
      let l : Vec A = p.left.point in
      let r : Vec A = p.right.point in
      let h : Pos (veer N Left (x ⟶ r) (x ⟶ l)) = pos_eq K (behind_is K l r x) bh in
      record {
        side = Right;
        h = l ⟶ r;
        on = goes_through p x d h c ne;
        faces = all_faces K Left p x (nn_pos K h);
        ahead = both Left (λ t. veer N t d (x ⟶ (end t p).point) ≡ 𝟘 → Pos (veer N Right (x ⟶ (end t p).point) (l ⟶ r))) (λ k. pos_eq K (left_end K l r x) h) (λ k. pos_eq K (right_end K l r x) h);
      }
