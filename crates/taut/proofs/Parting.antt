-- Two strings that have parted, and one step from a portal to the next.
-- The piece v → w runs on side t, the piece v' → w' on the other side. They are separated at a portal (`Sep`) if no point strictly in front of it lies weakly on side t of the first
-- and weakly on the other side of the second, and each piece has the far end of the portal strictly off its line. The condition is said of every point, so no crossing point is computed.
-- `ahead_straight`: a piece that passes keeps it. `bent_fore`, `bent_left`: a bend at the end on side t keeps it.
use Rattle.std.proofs.Common.{◌≡◌, sym, ap, subst, inl, inr}
use Rattle.algebra.specs.Arithmetic.{Arithmetic, Nn}
use Rattle.algebra.specs.Plane.{Vec, ◌⟶◌ as ◌⇢◌}
use Rattle.algebra.proofs.RingSolver.{CommRing}
use Rattle.algebra.proofs.OrderedRing.{OrderedRing, base, pos_eq, nn_eq, nn_pos, sign', nn_add, pos_cancel, signs}
use Rattle.taut.specs.declared.Side.{Side}
use Rattle.taut.specs.declared.Side.TheVariants.{Left, Right}
use Rattle.taut.specs.Sleeve.{other, Portal, end, veer}
use Rattle.taut.specs.TautString.{Crosses, Turns}
use Rattle.taut.proofs.Veer.{swap, in_order, straight, bent_front, from_head, cyc, past_line, front_sum}
use Rattle.taut.proofs.Portals.{back_nn}
use Rattle.taut.proofs.Along.{pos_right}

module _ (K : OrderedRing) where
  abbrev N : Arithmetic
  N = K.numbers

  abbrev R : CommRing
  R = base K

  open N use {carrier as A, Pos}
  open N.ops use {nil as 𝟘, add as ◌+◌, mul as ◌*◌, neg as -◌}
  open K.laws.order use {pos_nil}

  infixl 65 ◌+◌
  infixl 70 ◌*◌
  infix 75 -◌
  infix 73 ◌⟶◌
  abbrev ◌⟶◌ : Vec A → Vec A → Vec A
  v ⟶ w = ◌⇢◌ N v w

  -- ---- a string bends at f on side t; the portal (f, o) is followed by (x, o); c is the way on
  module _ (t : Side) (d g x c : Vec A) (gx : Pos (veer N t g x)) (dc : Pos (veer N t d c)) (gd : Nn N (veer N t g d)) (cx : Nn N (veer N t c x)) (gc₀ : Nn N (veer N t g c)) where
    prod : Pos (veer N t g c * veer N t d x)
    prod = pos_eq K (in_order K t g d c x) (search signs)

    dx⁺ : Pos (veer N t d x)
    dx⁺ = pos_right K gc₀ prod

    gc⁺ : Pos (veer N t g c)
    gc⁺ = pos_right K (nn_pos K dx⁺) (pos_eq K (R.laws.mul_comm (veer N t g c) (veer N t d x)) prod)

    gk⁺ : (k : Vec A) → Pos (veer N t g k + veer N t x g + veer N t k x) → Nn N (veer N t c k) → Pos (veer N t g k)
    gk⁺ k f ck = elim (sign' K (veer N t g k)) [
      | inl h ↦ h
      | inr q ↦
          let kg : Nn N (veer N t k g) = back_nn K t g k q in
          let gc : Pos (veer N t g c) = gc⁺ in
          absurd (pos_nil (pos_eq K (bent_front K t g x c k) (search signs depth 12 fits 4000)))
    ]

    dk⁺ : (k : Vec A) → Pos (veer N t g k) → Nn N (veer N t c k) → Pos (veer N t d k)
    dk⁺ k gk ck = pos_cancel K gc⁺ (pos_eq K (in_order K t g d c k) (search signs))

  -- ---- the two strings: v to w on side t, v' to w' on the other side
  abbrev pub InFront : Side → Portal A → Vec A → Type 0
  InFront t p z = Pos (veer N t ((end t p).point ⟶ (end (other t) p).point) ((end t p).point ⟶ z))

  abbrev pub Gapless : Side → Portal A → (v w v' w' : Vec A) → Type 0
  Gapless t p v w v' w' = (z : Vec A) → InFront t p z → Pos (veer N t (v ⟶ w) (v ⟶ z)) → Nn N (veer N t (v' ⟶ z) (v' ⟶ w')) → ⊥

  pub record Sep (t : Side) (p : Portal A) (v w v' w' : Vec A) : Type 0 where
    pub clear : (z : Vec A) → InFront t p z → Nn N (veer N t (v ⟶ w) (v ⟶ z)) → Nn N (veer N t (v' ⟶ z) (v' ⟶ w')) → ⊥
    pub near : Pos (veer N t (v ⟶ (end (other t) p).point) (v ⟶ w))
    pub far : Pos (veer N t (v' ⟶ w') (v' ⟶ (end t p).point))

  pub mirror : (t : Side) (p : Portal A) (v w v' w' : Vec A) → Sep t p v w v' w' → Sep (other t) p v' w' v w
  mirror Left p v w v' w' s = record { clear = λ z f a b. s.clear z (pos_eq K (sym (cyc K Left p.left.point p.right.point z)) f) b a; near = s.far; far = s.near }
  mirror Right p v w v' w' s = record { clear = λ z f a b. s.clear z (pos_eq K (sym (cyc K Right p.right.point p.left.point z)) f) b a; near = s.far; far = s.near }

  -- ---- from p to q: q keeps the end on the other side
  module _ (t : Side) (p q : Portal A) (kept : end (other t) q ≡ end (other t) p) (fr : InFront t p (end t q).point) where
    abbrev f : Vec A
    f = (end t p).point

    abbrev o : Vec A
    o = (end (other t) p).point

    abbrev x : Vec A
    x = (end t q).point

    fore_q : (z : Vec A) → InFront t q z → Pos (veer N t (x ⟶ o) (x ⟶ z))
    fore_q z h = subst (λ m. Pos (veer N t (x ⟶ m.point) (x ⟶ z))) kept h

    -- straight on
    pub ahead_straight : (v w z : Vec A) → Crosses N v w p → Crosses N v w q → InFront t q z → Nn N (veer N t (v ⟶ w) (v ⟶ z)) → Pos (veer N t (v ⟶ w) (o ⟶ z)) → InFront t p z
    ahead_straight v w z cp cq fz l dz = elim (sign' K (veer N t (f ⟶ o) (f ⟶ z))) [
      | inl h ↦ h
      | inr n ↦
          let m : Nn N (veer N t (v ⟶ o) (v ⟶ w)) = nn_eq K (swap K t (v ⟶ w) (v ⟶ o)) (cp (other t)) in
          let df₀ : Nn N (veer N t (v ⟶ w) (v ⟶ f)) = cp t in
          let dx₀ : Nn N (veer N t (v ⟶ w) (v ⟶ x)) = cq t in
          let df : Nn N (veer N t (v ⟶ w) (o ⟶ f)) = nn_eq K (past_line K t v w o f) (nn_add K df₀ m) in
          let dx : Nn N (veer N t (v ⟶ w) (o ⟶ x)) = nn_eq K (past_line K t v w o x) (nn_add K dx₀ m) in
          let xf : Pos (veer N t (o ⟶ x) (o ⟶ f)) = pos_eq K (cyc K t f o x) fr in
          let zx : Pos (veer N t (o ⟶ z) (o ⟶ x)) = pos_eq K (cyc K t x o z) (fore_q z fz) in
          let fz' : Nn N (veer N t (o ⟶ f) (o ⟶ z)) = back_nn K t (o ⟶ z) (o ⟶ f) (nn_eq K (ap -◌ (cyc K t f o z)) n) in
          absurd (pos_nil (pos_eq K (straight K t (v ⟶ w) (o ⟶ f) (o ⟶ x) (o ⟶ z)) (search signs depth 8)))
    ]

    -- a bend at f
    module _ (v w : Vec A) (cp : Crosses N v f p) (tu : Turns N t v f w) (cq : Crosses N f w q) where
      gd : Nn N (veer N t (f ⟶ o) (v ⟶ f))
      gd = nn_eq K (swap K t (v ⟶ f) (f ⟶ o)) (nn_eq K (sidewise t) (cp (other t)))
        where
          sidewise : (s : Side) → veer N (other s) (v ⟶ f) (v ⟶ o) ≡ veer N (other s) (v ⟶ f) (f ⟶ o)
          sidewise Left = from_head K Right v f o
          sidewise Right = from_head K Left v f o

      cx : Nn N (veer N t (f ⟶ w) (f ⟶ x))
      cx = cq t

      gc₀ : Nn N (veer N t (f ⟶ o) (f ⟶ w))
      gc₀ = nn_eq K (swap K t (f ⟶ w) (f ⟶ o)) (subst (λ m. Nn N (veer N (other t) (f ⟶ w) (f ⟶ m.point))) kept (cq (other t)))

      pub bent_near : Pos (veer N t (f ⟶ (end (other t) q).point) (f ⟶ w))
      bent_near = subst (λ m. Pos (veer N t (f ⟶ m.point) (f ⟶ w))) (sym kept) (gc⁺ t (v ⟶ f) (f ⟶ o) (f ⟶ x) (f ⟶ w) fr tu gd cx gc₀)

      pub bent_new : Pos (veer N t (v ⟶ f) (v ⟶ x))
      bent_new = pos_eq K (sym (from_head K t v f x)) (dx⁺ t (v ⟶ f) (f ⟶ o) (f ⟶ x) (f ⟶ w) fr tu gd cx gc₀)

      pub bent_fore : (z : Vec A) → InFront t q z → Nn N (veer N t (f ⟶ w) (f ⟶ z)) → InFront t p z
      bent_fore z fz l = gk⁺ t (v ⟶ f) (f ⟶ o) (f ⟶ x) (f ⟶ w) fr tu gd cx gc₀ (f ⟶ z) (pos_eq K (front_sum K t f o x z) (fore_q z fz)) l

      pub bent_left : (z : Vec A) → InFront t q z → Nn N (veer N t (f ⟶ w) (f ⟶ z)) → Pos (veer N t (v ⟶ f) (v ⟶ z))
      bent_left z fz l = pos_eq K (sym (from_head K t v f z)) (dk⁺ t (v ⟶ f) (f ⟶ o) (f ⟶ x) (f ⟶ w) fr tu gd cx gc₀ (f ⟶ z) (bent_fore z fz l) l)
