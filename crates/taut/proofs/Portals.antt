-- Signs that a portal gives, for either of its ends.
use Rattle.std.proofs.Common.{◌≡◌, ◌⊎◌, List, [], ◌∷◌, sym, refl, ◌∙◌, subst, inl, inr}
use Rattle.algebra.specs.Arithmetic.{Arithmetic, Nn}
use Rattle.algebra.specs.Plane.{Vec, ◌⟶◌ as ◌⇢◌}
use Rattle.algebra.proofs.OrderedRing.{OrderedRing, pos_eq, nn_eq, nn_nil}
use Rattle.taut.specs.declared.Side.{Side}
use Rattle.taut.specs.declared.Side.TheVariants.{Left, Right}
use Rattle.taut.specs.Sleeve.{other, Portal, end, veer, Front, Behind, Keeps, Link, Ahead}
use Rattle.taut.specs.TautString.{Crosses}
use Rattle.taut.proofs.Sides.{both}
use Rattle.taut.proofs.Veer.{back, self, still, to_head, cyc}

module _ (K : OrderedRing) where
  abbrev N : Arithmetic
  N = K.numbers

  open N use {carrier as A, Pos}

  infix 73 ◌⟶◌
  abbrev ◌⟶◌ : Vec A → Vec A → Vec A
  v ⟶ w = ◌⇢◌ N v w

  pub keeps : (t : Side) (p q : Portal A) → Link N p q → Keeps N t p q ⊎ Keeps N (other t) p q
  keeps Left p q l = l
  keeps Right p q (inl k) = inr k
  keeps Right p q (inr k) = inl k

  -- seen from one end, what is in front lies on that side of the portal
  pub front : (t : Side) (p : Portal A) (x : Vec A) → Front N p x → Pos (veer N t ((end t p).point ⟶ (end (other t) p).point) ((end t p).point ⟶ x))
  front Left p x h = h
  front Right p x h = pos_eq K (cyc K Left p.left.point p.right.point x) h

  pub front_from : (t : Side) (p : Portal A) (w x : Vec A) → (end t p).point ≡ w → Front N p x → Pos (veer N t (w ⟶ (end (other t) p).point) (w ⟶ x))
  front_from t p w x is h = subst (λ u. Pos (veer N t (u ⟶ (end (other t) p).point) (u ⟶ x))) is (front t p x h)

  -- the line from a point to another goes through the other
  pub on_line : (t : Side) (v w : Vec A) → Nn N (veer N t (v ⟶ w) (v ⟶ w))
  on_line t v w = nn_eq K (sym (self K t (v ⟶ w))) (nn_nil K)

  pub back_nn : (t : Side) (a b : Vec A) → Nn N (N.ops.neg (veer N t a b)) → Nn N (veer N t b a)
  back_nn t a b h = nn_eq K (back K t a b) h

  -- a line goes through its start and through what it leads to
  pub ends_zero : (s : Side) (y v x : Vec A) → x ≡ v → Nn N (veer N s (y ⟶ v) (y ⟶ x))
  ends_zero s y v x is = subst (λ u. Nn N (veer N s (y ⟶ v) (y ⟶ u))) (sym is) (nn_eq K (sym (self K s (y ⟶ v))) (nn_nil K))

  pub starts_zero : (s : Side) (y v : Vec A) → Nn N (veer N s (y ⟶ v) (y ⟶ y))
  starts_zero s y v = nn_eq K (sym (to_head K s y v y ∙ self K (other s) (y ⟶ v))) (nn_nil K)

  -- it crosses a portal if each end is on its proper side
  pub crosses : (s : Side) (y v : Vec A) (q : Portal A) → Nn N (veer N s (y ⟶ v) (y ⟶ (end s q).point)) → Nn N (veer N (other s) (y ⟶ v) (y ⟶ (end (other s) q).point)) → Crosses N y v q
  crosses s y v q h k = both s (λ x. Nn N (veer N x (y ⟶ v) (y ⟶ (end x q).point))) h k

  -- the end that the next portal replaces lies strictly behind it
  pub behind_replaced : (t : Side) (p q : Portal A) → Keeps N (other t) p q → Behind N q (end t p).point
  behind_replaced Left p q k = subst (λ m. Pos (veer N Right (q.left.point ⟶ m.point) (q.left.point ⟶ p.left.point))) (sym k.0) (pos_eq K (sym (cyc K Left q.left.point p.left.point p.right.point)) k.1)
  behind_replaced Right p q k = subst (λ m. Pos (veer N Right (m.point ⟶ q.right.point) (m.point ⟶ p.right.point))) (sym k.0) k.1

  -- a portal that has something in front of it is no single point
  pub no_front_end : (t : Side) (p : Portal A) → Front N p (end t p).point → ⊥
  no_front_end Left p f = (starts_zero Right p.left.point p.right.point).not_neg (pos_eq K (sym (back K Right (p.left.point ⟶ p.right.point) (p.left.point ⟶ p.left.point)) ∙ refl) f)
  no_front_end Right p f = K.laws.order.pos_nil (pos_eq K (self K Left (p.left.point ⟶ p.right.point)) f)

  one_point : (t : Side) (p : Portal A) (x : Vec A) → Front N p x → (end (other t) p).point ≡ (end t p).point → ⊥
  one_point t p x f is = K.laws.order.pos_nil (pos_eq K (still K t (end t p).point ((end t p).point ⟶ x)) (subst (λ u. Pos (veer N t ((end t p).point ⟶ u) ((end t p).point ⟶ x))) is (front t p x f)))

  pub two_ends : (t : Side) (e : Vec A) (p : Portal A) (ps : List (Portal A)) → Ahead N e p ps → (end (other t) p).point ≡ (end t p).point → ⊥
  two_ends t e p [] h is = one_point t p e h is
  two_ends t e p (q ∷ ps) h is = elim h.0 [ inl k ↦ one_point t p q.right.point k.1 is | inr k ↦ one_point t p q.left.point k.1 is ]
