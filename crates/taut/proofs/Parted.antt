-- Parted strings to one end do not exist. Two strings through the same portals, separated at one of them, are separated at the next (`step`):
-- the one on side t passes or bends at its own end; the other passes, or bends at the end that stays, and then this bend can be put off to the next portal (`delay`).
-- At the last portal the end point itself contradicts the separation.
use Rattle.std.proofs.Common.{◌≡◌, List, [], ◌∷◌, sym, ap, ◌∙◌, subst, inl, inr}
use Rattle.algebra.specs.Arithmetic.{Arithmetic, Nn}
use Rattle.algebra.specs.Plane.{Vec, ◌⟶◌ as ◌⇢◌}
use Rattle.algebra.proofs.RingSolver.{CommRing}
use Rattle.algebra.proofs.OrderedRing.{OrderedRing, base, pos_eq, nn_pos, sign', nn_add_pos}
use Rattle.taut.specs.declared.Side.{Side}
use Rattle.taut.specs.declared.Side.TheVariants.{Left, Right}
use Rattle.taut.specs.Sleeve.{other, Portal, end, veer, Front, Ahead}
use Rattle.taut.specs.TautString.{Bend, Crosses, Turns, aim}
use Rattle.taut.proofs.Veer.{self, from_head, oppose, at_head, past_line}
use Rattle.taut.proofs.Sides.{which, side_of, both}
use Rattle.taut.proofs.Portals.{front, on_line, back_nn}
use Rattle.taut.proofs.Thread.{Thread, arrive, pass, bend_at, crossing}
use Rattle.taut.proofs.Parting.{InFront, Gapless, Sep, mirror, ahead_straight, bent_near, bent_new, bent_fore, bent_left}

module _ (K : OrderedRing) (e : Vec K.numbers.carrier) where
  abbrev N : Arithmetic
  N = K.numbers

  abbrev R : CommRing
  R = base K

  open N use {carrier as A, Pos}
  open N.ops use {nil as 𝟘, add as ◌+◌, mul as ◌*◌, neg as -◌}
  open K.laws.order use {pos_nil}

  infixl 65 ◌+◌
  infixl 70 ◌*◌
  infix 75 -◌
  infix 73 ◌⟶◌
  abbrev ◌⟶◌ : Vec A → Vec A → Vec A
  v ⟶ w = ◌⇢◌ N v w

  pub opposed : (t : Side) (v w y : Vec A) → Pos (veer N t (v ⟶ w) (w ⟶ y)) → Nn N (veer N (other t) (v ⟶ w) (v ⟶ y)) → ⊥
  opposed t v w y h n = n.not_neg (pos_eq K (oppose K t v w y) h)

  -- ---- a bend at an end that the next portal keeps may be had there as well, if the piece crosses it
  pub delay : (p q : Portal A) (ps : List (Portal A)) (v : Vec A) (b : Bend A) (bs : List (Bend A)) → end b.side p ≡ b.vertex → end b.side q ≡ end b.side p → Turns N b.side v b.vertex.point (aim N e bs)
      → Nn N (veer N (other b.side) (v ⟶ b.vertex.point) (v ⟶ (end (other b.side) q).point)) → Thread N e b.vertex.point (q ∷ ps) bs → Thread N e v (q ∷ ps) (b ∷ bs)
  delay p q ps v b bs is kept tu cr (pass c st) = bend_at (both b.side (λ s. Nn N (veer N s (v ⟶ b.vertex.point) (v ⟶ (end s q).point))) (subst (λ m. Nn N (veer N b.side (v ⟶ b.vertex.point) (v ⟶ m.point))) (sym (kept ∙ is)) (on_line K b.side v b.vertex.point)) cr) (kept ∙ is) tu st
  delay p q ps v b bs is kept tu cr (bend_at {b = b₂} c is₂ tu₂ st) = absurd (elim (which b.side b₂.side) [
    | inl s ↦
        let same : b₂.vertex ≡ b.vertex = sym is₂ ∙ ap (λ r. end r q) s ∙ kept ∙ is in
        pos_nil (pos_eq K (at_head K b.side v b.vertex.point) (subst (λ m. Turns N b.side v b.vertex.point m.point) same tu))
    | inr s ↦
        let same : b₂.vertex ≡ end (other b.side) q = sym is₂ ∙ ap (λ r. end r q) s in
        opposed b.side v b.vertex.point (end (other b.side) q).point (subst (λ m. Turns N b.side v b.vertex.point m.point) same tu) cr
  ])

  pub record Pair (t : Side) (p : Portal A) (ps : List (Portal A)) : Type 0 where
    pub v : Vec A
    pub v' : Vec A
    pub bs : List (Bend A)
    pub bs' : List (Bend A)
    pub one : Thread N e v (p ∷ ps) bs
    pub two : Thread N e v' (p ∷ ps) bs'
    pub sep : Sep K t p v (aim N e bs) v' (aim N e bs')

  pub mirrored : (t : Side) (p : Portal A) (ps : List (Portal A)) → Pair t p ps → Pair (other t) p ps
  mirrored t p ps r = record { v = r.v'; v' = r.v; bs = r.bs'; bs' = r.bs; one = r.two; two = r.one; sep = mirror K t p r.v (aim N e r.bs) r.v' (aim N e r.bs') r.sep }

  -- ---- from p to q, which keeps the end on the other side
  module _ (t : Side) (p q : Portal A) (ps : List (Portal A)) (kept : end (other t) q ≡ end (other t) p) (fr : InFront K t p (end t q).point) where
    abbrev f : Vec A
    f = (end t p).point

    abbrev x : Vec A
    x = (end t q).point

    abbrev Unless : Vec A → Vec A → Type 0
    Unless v w = Nn N (veer N t (v ⟶ x) (v ⟶ w)) → ⊥

    pub unless : (v w : Vec A) → Unless v w → Pos (veer N t (v ⟶ w) (v ⟶ x))
    unless v w h = elim (sign' K (veer N t (v ⟶ w) (v ⟶ x))) [ inl g ↦ g | inr n ↦ absurd (h (back_nn K t (v ⟶ w) (v ⟶ x) n)) ]

    -- the string on the other side does not bend at p, or it does so at q as well
    pub waits : (v : Vec A) (b : Bend A) (bs : List (Bend A)) → b.side ≡ other t → end b.side p ≡ b.vertex → Turns N b.side v b.vertex.point (aim N e bs) → Thread N e b.vertex.point (q ∷ ps) bs → Unless v b.vertex.point → Thread N e v (q ∷ ps) (b ∷ bs)
    waits v b bs s is tu st h = delay p q ps v b bs is (subst (λ r. end r q ≡ end r p) (sym s) kept) tu (side_of t b.side s (λ r. Nn N (veer N r (v ⟶ b.vertex.point) (v ⟶ (end r q).point))) (nn_pos K (unless v b.vertex.point h))) st

    wait : (v : Vec A) (bs : List (Bend A)) → Pos (veer N t (v ⟶ aim N e bs) (v ⟶ f)) → Unless v (aim N e bs) → Thread N e v (p ∷ q ∷ ps) bs → Thread N e v (q ∷ ps) bs
    wait v bs far h (pass c st) = st
    wait v bs far h (bend_at {b = b} {bs = cs} c is tu st) = elim (which t b.side) [
      | inl s ↦ absurd (pos_nil (pos_eq K (self K t (v ⟶ b.vertex.point)) (subst (λ m. Pos (veer N t (v ⟶ b.vertex.point) (v ⟶ m.point))) (ap (λ r. end r p) (sym s) ∙ is) far)))
      | inr s ↦ waits v b cs s is tu st h
    ]

    -- the string on this side bends at p
    pub parts : (v v' : Vec A) (b : Bend A) (bs bs' : List (Bend A)) → b.side ≡ t → Crosses N v b.vertex.point p → end b.side p ≡ b.vertex → Turns N b.side v b.vertex.point (aim N e bs) → Thread N e b.vertex.point (q ∷ ps) bs
        → (Unless v' (aim N e bs') → Thread N e v' (q ∷ ps) bs') → Gapless K t p v b.vertex.point v' (aim N e bs') → Pair t q ps
    parts v v' b bs bs' s cp is tu st two cl =
        let w : Vec A = aim N e bs in
        let w' : Vec A = aim N e bs' in
        let at_f : b.vertex.point ≡ f = ap (λ m. m.point) (sym is ∙ ap (λ r. end r p) s) in
        let cp' : Crosses N v f p = subst (λ u. Crosses N v u p) at_f cp in
        let tu' : Turns N t v f w = subst (λ u. Turns N t v u w) at_f (subst (λ r. Turns N r v b.vertex.point w) s tu) in
        let st' : Thread N e f (q ∷ ps) bs = subst (λ u. Thread N e u (q ∷ ps) bs) at_f st in
        let cl' : Gapless K t p v f v' w' = subst (λ u. Gapless K t p v u v' w') at_f cl in
        let cq : Crosses N f w q = crossing N st' in
        let un : Unless v' w' = cl' x fr (bent_new K t p q kept fr v w cp' tu' cq) in
        record {
          v = f;
          v' = v';
          bs = bs;
          bs' = bs';
          one = st';
          two = two un;
          sep = record {
            clear = λ z fz l r. cl' z (bent_fore K t p q kept fr v w cp' tu' cq z fz l) (bent_left K t p q kept fr v w cp' tu' cq z fz l) r;
            near = bent_near K t p q kept fr v w cp' tu' cq;
            far = unless v' w' un;
          };
        }

    moves : (v v' : Vec A) (bs bs' : List (Bend A)) → Thread N e v (p ∷ q ∷ ps) bs → Thread N e v' (p ∷ q ∷ ps) bs' → Sep K t p v (aim N e bs) v' (aim N e bs') → Pair t q ps
    moves v v' bs bs' (pass c st) two sep =
        let w : Vec A = aim N e bs in
        let un : Unless v' (aim N e bs') = sep.clear x fr (crossing N st t) in
        record {
          v = v;
          v' = v';
          bs = bs;
          bs' = bs';
          one = st;
          two = wait v' bs' sep.far un two;
          sep = record {
            clear = λ z fz l r. sep.clear z (ahead_straight K t p q kept fr v w z c (crossing N st) fz l (pos_eq K (past_line K t v w (end (other t) p).point z) (nn_add_pos K l sep.near))) l r;
            near = subst (λ m. Pos (veer N t (v ⟶ m.point) (v ⟶ w))) (sym kept) sep.near;
            far = unless v' (aim N e bs') un;
          };
        }
    moves v v' bs bs' (bend_at {b = b} {bs = cs} c is tu st) two sep = elim (which t b.side) [
      | inl s ↦ parts v v' b cs bs' s c is tu st (λ un. wait v' bs' sep.far un two) (λ z fz l r. sep.clear z fz (nn_pos K l) r)
      | inr s ↦ absurd (pos_nil (pos_eq K (self K t (v ⟶ b.vertex.point)) (subst (λ m. Pos (veer N t (v ⟶ m.point) (v ⟶ b.vertex.point))) (ap (λ r. end r p) (sym s) ∙ is) sep.near)))
    ]

    pub step : Pair t p (q ∷ ps) → Pair t q ps
    step r = moves r.v r.v' r.bs r.bs' r.one r.two r.sep

  -- ---- at the end
  pub at_end : (t : Side) (p : Portal A) (v : Vec A) (bs : List (Bend A)) → Pos (veer N t (v ⟶ (end (other t) p).point) (v ⟶ aim N e bs)) → Thread N e v (p ∷ []) bs → Nn N (veer N t (v ⟶ aim N e bs) (v ⟶ e))
  at_end t p v bs near (pass c arrive) = on_line K t v e
  at_end t p v bs near (bend_at {b = b} c is tu arrive) = elim (which t b.side) [
    | inl s ↦ nn_pos K (pos_eq K (sym (from_head K t v b.vertex.point e)) (subst (λ r. Turns N r v b.vertex.point e) s tu))
    | inr s ↦ absurd (pos_nil (pos_eq K (self K t (v ⟶ b.vertex.point)) (subst (λ m. Pos (veer N t (v ⟶ m.point) (v ⟶ b.vertex.point))) (ap (λ r. end r p) (sym s) ∙ is) near)))
  ]

  ends : (p : Portal A) → Front N p e → Pair Left p [] → ⊥
  ends p h r = r.sep.clear e h (at_end Left p r.v r.bs r.sep.near r.one) (at_end Right p r.v' r.bs' r.sep.far r.two)

  pub apart : (ps : List (Portal A)) (p : Portal A) → Ahead N e p ps → Pair Left p ps → ⊥
  apart [] p h r = ends p h r
  apart (q ∷ ps) p h r = elim h.0 [
    | inl k ↦ apart ps q h.1 (mirrored Right q ps (step Right p q ps k.0 (front K Right p q.right.point k.1) (mirrored Left p (q ∷ ps) r)))
    | inr k ↦ apart ps q h.1 (step Left p q ps k.0 (front K Left p q.left.point k.1) r)
  ]

  pub aparts : (t : Side) (ps : List (Portal A)) (p : Portal A) → Ahead N e p ps → Pair t p ps → ⊥
  aparts Left ps p h r = apart ps p h r
  aparts Right ps p h r = apart ps p h (mirrored Right p ps r)
