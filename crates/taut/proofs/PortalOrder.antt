-- The order of portals. A place on a portal is never in front of the next portal, and lies on its line only at the end that both share.
-- So what crosses the portals of a sleeve meets them in their order. All is said D times over, so that places are whole.
-- The turn of a place is that of the two ends of its portal, each as often as it has a share; the shared end has none, and the other lies strictly behind.
use Rattle.std.proofs.Common.{◌≡◌, ℕ, zero, suc, ◌-◌ as ◌∸◌, ◌≤◌, ◌⊎◌, sym, refl, ap, ◌∙◌, inl, inr}
use Rattle.algebra.specs.Arithmetic.{Arithmetic, Nn}
use Rattle.algebra.specs.Plane.{Vec, plus, less, times, ◌⊗◌, ◌⟶◌ as ◌⇢◌}
use Rattle.algebra.proofs.RingSolver.{CommRing, :0, ◌:+◌, ◌:-◌, ◌:*◌, :-◌, ◌:=◌, E, neg_neg, neg_nil, ring}
use Rattle.algebra.proofs.OrderedRing.{OrderedRing, base, pos_eq, nn_eq, nn_pos, nn_nil, pos_add_nn, nn_add_pos, nn_add, signs}
use Rattle.algebra.proofs.PlaneSolver.{◌:×◌, ring_v, same_vector}
use Rattle.taut.specs.declared.Side.{Side}
use Rattle.taut.specs.declared.Side.TheVariants.{Left, Right}
use Rattle.taut.specs.Sleeve.{Portal, end, veer, Front, OnLine, Keeps}
use Rattle.taut.specs.Lengths.{whole, times_over, place, magnified}
use Rattle.taut.proofs.Wholes.{whole_nn, whole_less}

module _ (K : OrderedRing) where
  abbrev N : Arithmetic
  N = K.numbers

  abbrev R : CommRing
  R = base K

  open N use {carrier as A, Pos}
  open N.ops use {nil as 𝟘, add as ◌+◌, mul as ◌*◌, neg as -◌}
  open K.laws.order use {pos_nil}

  infixl 65 ◌+◌
  infixl 70 ◌*◌
  infix 75 -◌
  infix 73 ◌⟶◌
  abbrev ◌⟶◌ : Vec A → Vec A → Vec A
  v ⟶ w = ◌⇢◌ N v w

  abbrev mul_by : A → Vec A → Vec A
  mul_by a v = times N.ops a v

  -- o is shared, with share i of i + k; f is replaced by x
  left_lead : (o f x : Vec A) (i k : A) → veer N Left (mul_by (i + k) o ⟶ mul_by (i + k) x) (mul_by (i + k) o ⟶ plus N.ops (mul_by i o) (mul_by k f)) ≡ - ((i + k) * k * veer N Left (o ⟶ f) (o ⟶ x))
  unfolding ◌⊗◌ ◌⇢◌
  left_lead = ring_v R 3 2 (λ o f x i k. less E (times E (i :+ k) x) (times E (i :+ k) o) :× less E (plus E (times E i o) (times E k f)) (times E (i :+ k) o) := :- ((i :+ k) :* k :* less E f o :× less E x o)) refl

  right_lead : (o f x : Vec A) (i k : A) → veer N Left (mul_by (i + k) x ⟶ mul_by (i + k) o) (mul_by (i + k) x ⟶ plus N.ops (mul_by i f) (mul_by k o)) ≡ - ((i + k) * i * veer N Left (f ⟶ o) (f ⟶ x))
  unfolding ◌⊗◌ ◌⇢◌
  right_lead = ring_v R 3 2 (λ o f x i k. less E (times E (i :+ k) o) (times E (i :+ k) x) :× less E (plus E (times E i f) (times E k o)) (times E (i :+ k) x) := :- ((i :+ k) :* i :* less E o f :× less E x f)) refl

  -- ---- a share is nothing or positive
  abbrev Share : A → Type 0
  Share a = (a ≡ 𝟘) ⊎ Pos a

  whole_share : (n : ℕ) → Share (whole N n)
  whole_share zero = inl refl
  whole_share (suc n) = inr (pos_add_nn K K.laws.order.pos_one (whole_nn K n))

  share_nn : (a : A) → Share a → Nn N a
  share_nn a (inl e) = nn_eq K (sym e) (nn_nil K)
  share_nn a (inr p) = nn_pos K p

  never : (D a w v : A) → Nn N D → Nn N a → Pos w → v ≡ - (D * a * w) → Pos v → ⊥
  never D a w v d b c e h = let n : Nn N (D * a * w) = search signs in n.not_neg (pos_eq K e h)

  nothing : (D a w v : A) → Pos D → Pos a → Pos w → v ≡ - (D * a * w) → v ≡ 𝟘 → ⊥
  nothing D a w v d b c e h = pos_nil (pos_eq K (sym (neg_neg R (D * a * w)) ∙ ap -◌ (sym e ∙ h) ∙ neg_nil R) (search signs))

  whole_split : (D j : ℕ) → j ≤ D → whole N (D ∸ j) + whole N j ≡ whole N D
  whole_split D j h = ap (λ a. a + whole N j) (whole_less K D j h) ∙ ring R 2 (λ a b. a :- b :+ b := a) refl (whole N D) (whole N j)

  -- what has no share does not count
  only : (i k D : A) (o f : Vec A) → i + k ≡ D → k ≡ 𝟘 → plus N.ops (mul_by i o) (mul_by k f) ≡ mul_by D o
  only i k D o f s e =
      let is : i ≡ D = sym (R.laws.add_nil i) ∙ ap (λ a. i + a) (sym e) ∙ s in
      let one : (a b : A) → i * a + k * b ≡ D * a = λ a b. ap (λ u. i * a + u * b) e ∙ ap (λ u. u * a + 𝟘 * b) is ∙ ring R 3 (λ d a b. d :* a :+ :0 :* b := d :* a) refl D a b in
      same_vector R (one o.x f.x) (one o.y f.y)

  only' : (i k D : A) (o f : Vec A) → i + k ≡ D → i ≡ 𝟘 → plus N.ops (mul_by i f) (mul_by k o) ≡ mul_by D o
  only' i k D o f s e =
      let turn : (a b : A) → a + b ≡ b + a = R.laws.add_comm in
      same_vector R (turn (i * f.x) (k * o.x)) (turn (i * f.y) (k * o.y)) ∙ only k i D o f (turn k i ∙ s) e

  module _ (p q : Portal A) (D j : ℕ) (le : j ≤ D) where
    abbrev i : A
    i = whole N (D ∸ j)

    abbrev k : A
    k = whole N j

    -- where a place of p lies, seen along q, at any scale d
    lead : A → Vec A → Vec A → A
    lead d l r = veer N Left (mul_by d l ⟶ mul_by d r) (mul_by d l ⟶ place N D p j)

    Ordered : Vec A → A → Type 0
    Ordered o v = (Pos v → ⊥) × (v ≡ 𝟘 → place N D p j ≡ times_over N D o)

    ordered_by : (o : Vec A) (a w v : A) → Share a → Pos w → Nn N (i + k) → (Pos a → Pos (i + k)) → v ≡ - ((i + k) * a * w) → (a ≡ 𝟘 → place N D p j ≡ times_over N D o) → Ordered o v
    unfolding Ordered
    ordered_by o a w v (inl z) c d up e at_o = (never (i + k) a w v d (nn_eq K (sym z) (nn_nil K)) c e, λ h. at_o z)
    ordered_by o a w v (inr b) c d up e at_o = (never (i + k) a w v d (nn_pos K b) c e, λ h. absurd (nothing (i + k) a w v (up b) b c e h))

    scale : Nn N (i + k)
    scale = nn_add K (whole_nn K (D ∸ j)) (whole_nn K j)

    pub portal_order : (t : Side) → Keeps N t p q → (¬ (Front N (magnified N D q) (place N D p j))) × (OnLine N (magnified N D q) (place N D p j) → place N D p j ≡ times_over N D (end t p).point)
    unfolding Ordered lead
    portal_order Left kp =
        ordered_by p.left.point k (veer N Left (p.left.point ⟶ p.right.point) (p.left.point ⟶ q.right.point)) (lead (whole N D) q.left.point q.right.point)
        (whole_share j) kp.1 scale (λ b. nn_add_pos K (whole_nn K (D ∸ j)) b)
        (ap (λ m. lead (whole N D) m.point q.right.point) kp.0 ∙ ap (λ d. lead d p.left.point q.right.point) (sym (whole_split D j le)) ∙ left_lead p.left.point p.right.point q.right.point i k)
        (only i k (whole N D) p.left.point p.right.point (whole_split D j le))
    portal_order Right kp =
        ordered_by p.right.point i (veer N Left (p.left.point ⟶ p.right.point) (p.left.point ⟶ q.left.point)) (lead (whole N D) q.left.point q.right.point)
        (whole_share (D ∸ j)) kp.1 scale (λ b. pos_add_nn K b (whole_nn K j))
        (ap (λ m. lead (whole N D) q.left.point m.point) kp.0 ∙ ap (λ d. lead d q.left.point p.right.point) (sym (whole_split D j le)) ∙ right_lead p.right.point p.left.point q.left.point i k)
        (only' i k (whole N D) p.right.point p.left.point (whole_split D j le))
