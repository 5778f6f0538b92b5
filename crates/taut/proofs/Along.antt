-- Two directions along one ray have the same signs: what turns to a side of one turns to that side of the other.
-- A direction that lies along two rays at once is none.
use Rattle.std.proofs.Common.{◌≡◌, sym, refl, ap, ◌∙◌, inl, inr}
use Rattle.algebra.specs.Arithmetic.{Arithmetic, Nn}
use Rattle.algebra.specs.Plane.{Vec, less, ◌⊗◌, ◌⟶◌ as ◌⇢◌}
use Rattle.algebra.proofs.RingSolver.{CommRing, :0, :1, ◌:+◌, ◌:-◌, ◌:*◌, :-◌, ◌:=◌, E, nil_mul, neg_nil, ring, sub_nil}
use Rattle.algebra.proofs.OrderedRing.{OrderedRing, base, pos_eq, nn_eq, nn_split, pos_cancel, nn_cancel, signs, nil_cancel}
use Rattle.algebra.proofs.PlaneSolver.{◌:×◌, ring_v, same_vector}
use Rattle.taut.specs.declared.Side.{Side}
use Rattle.taut.specs.declared.Side.TheVariants.{Left, Right}
use Rattle.taut.specs.Sleeve.{other, veer}
use Rattle.taut.specs.Fan.{origin, opposite}
use Rattle.taut.proofs.Veer.{pluecker, between}

module _ (K : OrderedRing) where
  abbrev N : Arithmetic
  N = K.numbers

  abbrev R : CommRing
  R = base K

  open N use {carrier as A, Pos}
  open N.ops use {nil as 𝟘, one as 𝟙, add as ◌+◌, mul as ◌*◌, neg as -◌}
  open K.laws.order use {pos_nil}

  infixl 65 ◌+◌
  infixl 70 ◌*◌
  infix 75 -◌
  pub vanish : (x y z w : A) → y ≡ 𝟘 → x + y * w ≡ z → x ≡ z
  vanish x y z w e f = sym (ap (λ u. x + u) (ap (λ v. v * w) e ∙ nil_mul R w) ∙ R.laws.add_nil x) ∙ f

  pub vanish' : (x y z w : A) → y ≡ 𝟘 → y * w + x ≡ z → x ≡ z
  vanish' x y z w e f = vanish x y z w e (R.laws.add_comm x (y * w) ∙ f)

  pub pos_right : {a b : A} → Nn N a → Pos (a * b) → Pos b
  pos_right {a} {b} h p = elim (nn_split K h) [ inl q ↦ pos_cancel K q p | inr e ↦ absurd (pos_nil (pos_eq K (ap (λ x. x * b) e ∙ nil_mul R b) p)) ]

  -- a and d are one direction: what holds of a holds of d
  pub along : (t s : Side) (a h d k : Vec A) → veer N t a d ≡ 𝟘 → veer N t d h * veer N s a k ≡ veer N t a h * veer N s d k
  along t s a h d k e = vanish (veer N t d h * veer N s a k) (veer N t a d) (veer N t a h * veer N s d k) (veer N s h k) e (between K t s a h d k)

  pub along_nn : (t s : Side) (a h d k : Vec A) → veer N t a d ≡ 𝟘 → Pos (veer N t a h) → Pos (veer N t d h) → Nn N (veer N s a k) → Nn N (veer N s d k)
  along_nn t s a h d k e ah dh ak = nn_cancel K ah (nn_eq K (along t s a h d k e) (search signs))

  pub along_pos : (t s : Side) (a h d k : Vec A) → veer N t a d ≡ 𝟘 → Pos (veer N t a h) → Pos (veer N t d h) → Pos (veer N s a k) → Pos (veer N s d k)
  along_pos t s a h d k e ah dh ak = pos_cancel K ah (pos_eq K (along t s a h d k e) (search signs))

  -- l lies along h and along r, which differ: it is no direction
  pub along_both : (t : Side) (h r l x : Vec A) → Pos (veer N t h r) → veer N t h l ≡ 𝟘 → veer N t l r ≡ 𝟘 → veer N t x l ≡ 𝟘
  along_both t h r l x hr hl lr = nil_cancel K hr (vanish (veer N t h r * veer N t x l) (veer N t h l) 𝟘 (veer N t r x) hl
      (vanish (veer N t h r * veer N t x l + veer N t h l * veer N t r x) (veer N t l r) 𝟘 (veer N t h x) lr (relation t h r l x)))
    where
      relation : (t : Side) (h r l x : Vec A) → veer N t h r * veer N t x l + veer N t h l * veer N t r x + veer N t l r * veer N t h x ≡ 𝟘
      relation t h r l x =
          ring R 6 (λ a b c d e f. a :* b :+ c :* d :+ e :* f := a :* b :+ f :* e :+ c :* d) refl (veer N t h r) (veer N t x l) (veer N t h l) (veer N t r x) (veer N t l r) (veer N t h x) ∙ pluecker K t h x r l

  -- no direction: it turns to no side of anything, and of the two axes least
  pub axes : (t : Side) (u : Vec A) → ((x : Vec A) → veer N t x u ≡ 𝟘) → u ≡ origin N
  unfolding ◌⊗◌
  axes Left u h = same_vector R
      (ring R 2 (λ a b. a := :- (:0 :* b :- :1 :* a)) refl u.x u.y ∙ ap N.ops.neg (h (record { x = 𝟘; y = 𝟙 })) ∙ neg_nil R)
      (ring R 2 (λ a b. b := :1 :* b :- :0 :* a) refl u.x u.y ∙ h (record { x = 𝟙; y = 𝟘 }))
  axes Right u h = same_vector R
      (ring R 2 (λ a b. a := a :* :1 :- b :* :0) refl u.x u.y ∙ h (record { x = 𝟘; y = 𝟙 }))
      (ring R 2 (λ a b. b := :- (a :* :0 :- b :* :1)) refl u.x u.y ∙ ap N.ops.neg (h (record { x = 𝟙; y = 𝟘 })) ∙ neg_nil R)

  -- turned about, a direction lies on the other side
  pub flipped : (t : Side) (a h : Vec A) → veer N t a h ≡ veer N (other t) a (opposite N h)
  unfolding ◌⊗◌
  flipped Left = ring_v R 2 0 (λ a h. a :× h := less E (record { x = :0; y = :0 }) h :× a) refl
  flipped Right = ring_v R 2 0 (λ a h. h :× a := a :× less E (record { x = :0; y = :0 }) h) refl

  -- a step between two points that differ goes somewhere
  pub goes_somewhere : (s w : Vec A) → ¬ (s ≡ w) → ¬ ((◌⇢◌ N s w) ≡ origin N)
  unfolding ◌⇢◌
  goes_somewhere s w ne is = ne (sym (same_vector R (sub_nil R w.x s.x (ap (λ u. u.x) is)) (sub_nil R w.y s.y (ap (λ u. u.y) is))))
