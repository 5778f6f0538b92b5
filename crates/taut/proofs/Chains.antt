-- One chain of the funnel, from an end of the present portal to the apex, and a new end before it.
-- Every portal is crossed by the lines of all edges of the chain that end after it (`Arm`, `Passes`), and the chain is convex (`Convex`). That the portal's ends are seen in their order follows.
-- A corner can be dropped (`drop`), and the chain met from another point (`meet`); so a new end hooks on to what is left of its own chain (`hooked`), and the chain across stays (`stays`), by the front lemma.
use Rattle.std.proofs.Common.{◌≡◌, List, [], ◌∷◌, ◌++◌, sym, refl, ap, ◌∙◌, subst}
use Rattle.algebra.specs.Arithmetic.{Arithmetic, Nn}
use Rattle.algebra.specs.Plane.{Vec, less, ◌⊗◌, ◌⟶◌ as ◌⇢◌}
use Rattle.algebra.proofs.RingSolver.{CommRing, :0, ◌:=◌, E}
use Rattle.algebra.proofs.OrderedRing.{OrderedRing, base, pos_eq, nn_eq, nn_pos, nn_nil, nn_add, nn_cancel, signs}
use Rattle.algebra.proofs.PlaneSolver.{◌:×◌, ring_v}
use Rattle.taut.specs.declared.Side.{Side}
use Rattle.taut.specs.declared.Side.TheVariants.{Left, Right}
use Rattle.taut.specs.Sleeve.{other, Vertex, Portal, end, veer}
use Rattle.taut.specs.TautString.{Bend, Crosses, Turns, aim}
use Rattle.taut.specs.Funnel.{bends, next}
use Rattle.taut.proofs.Veer.{swap, self, between, to_head, to_tail, popped, fore_at, faces_sum}
use Rattle.taut.proofs.Sides.{both}
use Rattle.taut.proofs.Portals.{on_line}
use Rattle.taut.proofs.Thread.{Thread, arrive, pass, bend_at}
use Rattle.taut.proofs.FrontLemma.{Seen, fore}
use Rattle.taut.proofs.Settling.{Straight, Trims, none_left, stops_at, dropped}

module _ (K : OrderedRing) where
  abbrev N : Arithmetic
  N = K.numbers

  abbrev R : CommRing
  R = base K

  open N use {carrier as A, Pos}
  open N.ops use {nil as 𝟘, add as ◌+◌, mul as ◌*◌, neg as -◌}
  open K.laws.order use {pos_nil}

  infixl 65 ◌+◌ ◌-◌
  infixl 70 ◌*◌
  infix 75 -◌
  infix 73 ◌⟶◌
  abbrev ◌-◌ : A → A → A
  a - b = a + - b

  abbrev ◌⟶◌ : Vec A → Vec A → Vec A
  v ⟶ w = ◌⇢◌ N v w

  -- the same, for the end on the other side
  to_head' : (t : Side) (u w l : Vec A) → veer N (other t) (u ⟶ w) (u ⟶ l) ≡ veer N (other t) (l ⟶ w) (u ⟶ w)
  to_head' Left u w l = to_head K Right u w l
  to_head' Right u w l = to_head K Left u w l

  to_tail' : (t : Side) (u w l : Vec A) → veer N (other t) (u ⟶ w) (u ⟶ l) ≡ veer N (other t) (l ⟶ u) (u ⟶ w)
  to_tail' Left u w l = to_tail K Right u w l
  to_tail' Right u w l = to_tail K Left u w l

  pub seen_in : (t : Side) (u c : Vec A) (p : Portal A) → Crosses N u c p → Seen K (other t) (u ⟶ c) ((end t p).point ⟶ c) ((end (other t) p).point ⟶ c)
  seen_in t u c p h = record { near = nn_eq K (to_head K t u c (end t p).point) (h t); far = nn_eq K (to_head' t u c (end (other t) p).point) (h (other t)) }

  seen_out : (t : Side) (c w : Vec A) (p : Portal A) → Crosses N c w p → Seen K (other t) (c ⟶ w) ((end t p).point ⟶ c) ((end (other t) p).point ⟶ c)
  seen_out t c w p h = record { near = nn_eq K (to_tail K t c w (end t p).point) (h t); far = nn_eq K (to_tail' t c w (end (other t) p).point) (h (other t)) }

  -- the same with the sides exchanged
  seen_in° : (t : Side) (u c : Vec A) (p : Portal A) → Crosses N u c p → Seen K t (u ⟶ c) ((end (other t) p).point ⟶ c) ((end t p).point ⟶ c)
  seen_in° Left = seen_in Right
  seen_in° Right = seen_in Left

  seen_out° : (t : Side) (c w : Vec A) (p : Portal A) → Crosses N c w p → Seen K t (c ⟶ w) ((end (other t) p).point ⟶ c) ((end t p).point ⟶ c)
  seen_out° Left = seen_out Right
  seen_out° Right = seen_out Left

  fore_at° : (t : Side) (c l r x : Vec A) → veer N (other t) (x ⟶ r) (x ⟶ l) ≡ veer N t (l ⟶ c) (r ⟶ c) + veer N t (r ⟶ c) (x ⟶ c) + veer N t (x ⟶ c) (l ⟶ c)
  fore_at° Left = fore_at K Right
  fore_at° Right = fore_at K Left

  pub to_head° : (t : Side) (u w l : Vec A) → veer N (other t) (u ⟶ w) (u ⟶ l) ≡ veer N t (u ⟶ w) (l ⟶ w)
  to_head° Left = to_head K Right
  to_head° Right = to_head K Left

  to_tail° : (t : Side) (u w l : Vec A) → veer N (other t) (u ⟶ w) (u ⟶ l) ≡ veer N t (u ⟶ w) (l ⟶ u)
  to_tail° Left = to_tail K Right
  to_tail° Right = to_tail K Left

  -- from u to c and from c to w both cross: so does what comes to c in between
  pub crosses_between : (t : Side) (u c w x : Vec A) (q : Portal A) → Pos (veer N t (u ⟶ c) (c ⟶ w)) → Nn N (veer N t (u ⟶ c) (x ⟶ c)) → Nn N (veer N t (x ⟶ c) (c ⟶ w)) → Crosses N u c q → Crosses N c w q → Crosses N x c q
  crosses_between t u c w x q ab ad db ha hb = λ s.
      let l : Vec A = (end s q).point in
      let p : Nn N (veer N (other s) (u ⟶ c) (l ⟶ c)) = nn_eq K (to_head K s u c l) (ha s) in
      let r : Nn N (veer N (other s) (c ⟶ w) (l ⟶ c)) = nn_eq K (to_tail K s c w l) (hb s) in
      nn_eq K (sym (to_head K s x c l)) (nn_cancel K ab (nn_eq K (between K t (other s) (u ⟶ c) (c ⟶ w) (x ⟶ c) (l ⟶ c)) (search signs)))

  -- seen from c, the portal's ends are in their order
  abbrev pub Faces : Portal A → Vec A → Type 0
  Faces p c = Nn N (veer N Left (p.left.point ⟶ c) (p.right.point ⟶ c))

  -- the order is kept along an edge whose line crosses the portal
  pub faces_next : (u c : Vec A) (p : Portal A) → Faces p u → Crosses N u c p → Faces p c
  faces_next u c p f h = nn_eq K (faces_sum K p.left.point p.right.point u c) (nn_add K f (nn_add K (h Left) (h Right)))

  pub faces_end : (t : Side) (p : Portal A) → Faces p (end t p).point
  unfolding ◌⊗◌ ◌⇢◌
  faces_end Left p = nn_eq K (ring_v R 2 0 (λ l r. :0 := less E l l :× less E l r) refl p.left.point p.right.point) (nn_nil K)
  faces_end Right p = nn_eq K (ring_v R 2 0 (λ l r. :0 := less E r l :× less E r r) refl p.left.point p.right.point) (nn_nil K)

  pub faces : (s : Side) (p : Portal A) (c : Vec A) → Faces p c → Nn N (veer N (other s) ((end (other s) p).point ⟶ c) ((end s p).point ⟶ c))
  faces Left p c h = h
  faces Right p c h = h

  faces° : (s : Side) (p : Portal A) (c : Vec A) → Faces p c → Nn N (veer N s ((end s p).point ⟶ c) ((end (other s) p).point ⟶ c))
  faces° Left p c h = h
  faces° Right p c h = h

  -- the vertex before the apex
  abbrev pub last : Vec A → List (Vertex A) → Vec A
  last x [] = x
  last x (c ∷ cs) = last c.point cs

  -- ---- the part of the funnel that is final: its first bend (or the end) is the apex, met at the first of the portals `rest`
  pub data Stem (e : Vec A) : List (Bend A) → List (Portal A) → Type 0 where
    at_end : Stem e [] []
    at_bend : {b : Bend A} {bs : List (Bend A)} {q : Portal A} {ps : List (Portal A)} → end b.side q ≡ b.vertex → Thread N e b.vertex.point ps bs → Stem e (b ∷ bs) (q ∷ ps)

  -- the edge from x to the apex crosses that portal
  abbrev pub Meets : Vec A → List (Bend A) → List (Portal A) → Vec A → Type 0
  Meets e fb [] x = Unit {0}
  Meets e fb (q ∷ ps) x = Crosses N x (aim N e fb) q

  -- .. and turns at the apex to the bend's side
  abbrev pub TurnsAtApex : Vec A → List (Bend A) → Vec A → Type 0
  TurnsAtApex e [] x = Unit {0}
  TurnsAtApex e (b ∷ bs) x = Turns N b.side x b.vertex.point (aim N e bs)

  stem_thread : {e : Vec A} {fb : List (Bend A)} {rest : List (Portal A)} (x : Vec A) → Stem e fb rest → Meets e fb rest x → TurnsAtApex e fb x → Thread N e x rest fb
  stem_thread x at_end m tu = arrive
  stem_thread x (at_bend is st) m tu = bend_at m is tu st

  -- ---- chains to the apex
  module _ (e : Vec A) (fb : List (Bend A)) (rest : List (Portal A)) (t : Side) where
    -- the line of every edge from x along the chain to the apex crosses q
    abbrev pub Passes : Portal A → Vec A → List (Vertex A) → Type 0
    Passes q x [] = Crosses N x (aim N e fb) q
    Passes q x (c ∷ cs) = Crosses N x c.point q × Passes q c.point cs

    -- the chain goes through the portals up to the apex, and every edge's line crosses every portal before the edge's end
    pub data Arm : Vec A → List (Vertex A) → List (Portal A) → Type 0 where
      stop : {x : Vec A} → Meets e fb rest x → Arm x [] []
      over : {x : Vec A} {cs : List (Vertex A)} {q : Portal A} {ps : List (Portal A)} → Passes q x cs → Arm x cs ps → Arm x cs (q ∷ ps)
      hook : {x : Vec A} {c : Vertex A} {cs : List (Vertex A)} {q : Portal A} {ps : List (Portal A)} → Passes q x (c ∷ cs) → end t q ≡ c → Arm c.point cs ps → Arm x (c ∷ cs) (q ∷ ps)

    abbrev pub Convex : Vec A → List (Vertex A) → Type 0
    Convex x [] = TurnsAtApex e fb x
    Convex x (c ∷ cs) = Turns N t x c.point (next N e cs fb) × Convex c.point cs

    -- ---- a chain is a string
    pub next_is : (cs : List (Vertex A)) → next N e cs fb ≡ aim N e (bends t cs ++ fb)
    next_is [] = refl
    next_is (c ∷ cs) = refl

    pub edge : (q : Portal A) (x : Vec A) (cs : List (Vertex A)) → Passes q x cs → Crosses N x (aim N e (bends t cs ++ fb)) q
    edge q x [] h = h
    edge q x (c ∷ cs) h = h.0

    pub thread_of : {x : Vec A} {cs : List (Vertex A)} {ps : List (Portal A)} → Stem e fb rest → Arm x cs ps → Convex x cs → Thread N e x (ps ++ rest) (bends t cs ++ fb)
    thread_of stem (stop {x = x} m) cv = stem_thread x stem m cv
    thread_of stem (over {x = x} {cs = cs} {q = q} h arm) cv = pass (edge q x cs h) (thread_of stem arm cv)
    thread_of stem (hook {x = x} {c = c} {cs = cs} h is arm) cv = bend_at h.0 is (subst (Turns N t x c.point) (next_is cs) cv.0) (thread_of stem arm cv.1)

    -- ---- the first vertex can be left out, and the chain be met from another point
    pub drop : {x : Vec A} {c : Vertex A} {cs : List (Vertex A)} {ps : List (Portal A)} → Arm x (c ∷ cs) ps → Arm c.point cs ps
    drop (over h arm) = over h.1 (drop arm)
    drop (hook h is arm) = over h.1 arm

    pub out : (q : Portal A) (c : Vec A) (cs : List (Vertex A)) → Passes q c cs → Crosses N c (next N e cs fb) q
    out q c [] h = h
    out q c (d ∷ cs) h = h.0

    meet : {x : Vec A} {c : Vertex A} {cs : List (Vertex A)} {ps : List (Portal A)} (y : Vec A) → Turns N t x c.point (next N e cs fb) → Nn N (veer N t (x ⟶ c.point) (y ⟶ c.point)) → Turns N t y c.point (next N e cs fb) → Arm x (c ∷ cs) ps → Arm y (c ∷ cs) ps
    meet y tu in₁ in₂ (over {x = x} {cs = c ∷ cs} {q = q} h arm) = over (crosses_between t x c.point (next N e cs fb) y q tu in₁ (nn_pos K in₂) h.0 (out q c.point cs h.1), h.1) (meet y tu in₁ in₂ arm)
    meet y tu in₁ in₂ (hook {x = x} {c = c} {cs = cs} {q = q} h is arm) = hook (crosses_between t x c.point (next N e cs fb) y q tu in₁ (nn_pos K in₂) h.0 (out q c.point cs h.1), h.1) is arm

    -- ---- hooking on: what is left of the chain is met from y, and turns there
    module _ (y : Vec A) (p : Portal A) (ps : List (Portal A)) (u : Vec A) where
      -- .. or nothing is left, and the way from y to the apex is not right of the last edge's, from u
      abbrev pub Met : List (Vertex A) → Type 0
      Met [] = Nn N (veer N t (u ⟶ aim N e fb) (y ⟶ aim N e fb))
      Met (c ∷ cs) = Arm y (c ∷ cs) ps × Convex y (c ∷ cs) × Faces p c.point × (last c.point cs ≡ u)

      trimmed : (x : Vec A) (cs ks : List (Vertex A)) → Arm x cs ps → Passes p x cs → Convex x cs → Faces p x → last x cs ≡ u → Straight K t y x (next N e cs fb) → Trims K e t y fb cs ks → Met ks
      trimmed x [] ks arm pa cv fa is un none_left = subst (λ a. Nn N (veer N t (a ⟶ aim N e fb) (y ⟶ aim N e fb))) is (nn_eq K (popped K t y x (aim N e fb)) un)
      trimmed x (c ∷ cs) ks arm pa cv fa is un (stops_at tu) = (meet y cv.0 (nn_eq K (popped K t y x c.point) un) tu arm, (tu, cv.1), faces_next x c.point p fa pa.0, is)
      trimmed x (c ∷ cs) ks arm pa cv fa is un (dropped un' tr) = trimmed c.point cs ks (drop arm) pa.1 cv.1 (faces_next x c.point p fa pa.0) is un' tr

    -- y lies on side s of the last edge
    abbrev pub LastOn : Side → Vec A → Vec A → List (Vertex A) → Type 0
    LastOn s y x cs = Nn N (veer N s (last x cs ⟶ aim N e fb) (last x cs ⟶ y))

    -- ---- the portal p₀ before p keeps the end on the other side, and has a new end on this side
    module _ (p₀ p : Portal A) (kept : end (other t) p ≡ end (other t) p₀) (fr : Pos (veer N t ((end t p₀).point ⟶ (end (other t) p).point) ((end t p₀).point ⟶ (end t p).point))) where
      abbrev y : Vec A
      y = (end t p₀).point

      -- a line that crosses p and has the new end on its proper side crosses p₀
      pub crosses_new : (u w : Vec A) → Crosses N u w p → Nn N (veer N t (u ⟶ w) (u ⟶ y)) → Crosses N u w p₀
      crosses_new u w h k = both t (λ s. Nn N (veer N s (u ⟶ w) (u ⟶ (end s p₀).point))) k (subst (λ m. Nn N (veer N (other t) (u ⟶ w) (u ⟶ m.point))) kept (h (other t)))

      -- down the chain by the front lemma
      down : (c : Vec A) (cs : List (Vertex A)) → Faces p c → Passes p c cs → Convex c cs → Nn N (veer N t (c ⟶ next N e cs fb) (c ⟶ y)) → Passes p₀ c cs × LastOn t y c cs
      down c [] fa h cv on = (crosses_new c (aim N e fb) h on, on)
      down c (d ∷ cs) fa h cv on =
          let n : Vec A = (end t p).point ⟶ d.point in
          let o : Vec A = (end (other t) p).point ⟶ d.point in
          let w : Vec A = next N e cs fb in
          let fd : Faces p d.point = faces_next c d.point p fa h.0 in
          let zx : Pos (veer N (other t) (d.point ⟶ w) (y ⟶ d.point)) = fore K (other t) (d.point ⟶ w) (c ⟶ d.point) n o (y ⟶ d.point) (pos_eq K (sym (swap K t (d.point ⟶ w) (c ⟶ d.point))) cv.0)
          (seen_out t d.point w p (out p d.point cs h.1)) (seen_in t c d.point p h.0) (faces t p d.point fd)
          (pos_eq K (fore_at K t d.point (end t p).point (end (other t) p).point y) fr) (nn_eq K (to_head K t c d.point y) on) in
          let below : Passes p₀ d.point cs × LastOn t y d.point cs = down d.point cs fd h.1 cv.1 (nn_eq K (sym (to_tail K t d.point w y)) (nn_pos K zx)) in
          ((crosses_new c d.point h.0 on, below.0), below.1)

    -- ---- the invariant of one chain
    pub record Wing (p : Portal A) (ps : List (Portal A)) (cs : List (Vertex A)) : Type 0 where
      pub arm : Arm (end t p).point cs ps
      pub passes : Passes p (end t p).point cs
      pub convex : Convex (end t p).point cs

    pub first : {x : Vec A} {cs : List (Vertex A)} {q : Portal A} {ps : List (Portal A)} → Arm x cs (q ∷ ps) → Passes q x cs
    first (over h arm) = h
    first (hook h is arm) = h

    abbrev pub Winged : Vec A → Portal A → List (Portal A) → List (Vertex A) → Type 0
    Winged u p ps [] = Nn N (veer N t (u ⟶ aim N e fb) ((end t p).point ⟶ aim N e fb))
    Winged u p ps (c ∷ cs) = Wing p ps (c ∷ cs) × LastOn t (end t p).point c.point cs × (last c.point cs ≡ u)

    module _ (p₀ p : Portal A) (ps : List (Portal A)) (kept : end (other t) p ≡ end (other t) p₀) (fr : Pos (veer N t ((end t p₀).point ⟶ (end (other t) p).point) ((end t p₀).point ⟶ (end t p).point))) where
      abbrev z : Vec A
      z = (end t p₀).point

      met : (cs ks : List (Vertex A)) → Wing p ps cs → Trims K e t z fb (end t p ∷ cs) ks → Met z p (p ∷ ps) (last (end t p).point cs) ks
      met cs ks w (stops_at tu) = (hook (both t (λ s. Nn N (veer N s (z ⟶ (end t p).point) (z ⟶ (end s p).point))) (on_line K t z (end t p).point) (nn_eq K (sym (swap K t (z ⟶ (end t p).point) (z ⟶ (end (other t) p).point))) (nn_pos K fr)), w.passes) refl w.arm, (tu, w.convex), faces_end t p, refl)
      met cs ks w (dropped un tr) = trimmed z p (p ∷ ps) (last (end t p).point cs) (end t p).point cs ks (over w.passes w.arm) w.passes w.convex (faces_end t p) refl un tr

      wing : (u : Vec A) (cs : List (Vertex A)) → Met z p (p ∷ ps) u cs → Winged u p₀ (p ∷ ps) cs
      wing u [] m = m
      wing u (c ∷ cs) m =
          let pa : Passes p z (c ∷ cs) = first m.0 in
          let on : Nn N (veer N t (c.point ⟶ next N e cs fb) (c.point ⟶ z)) = nn_eq K (sym (to_tail K t c.point (next N e cs fb) z ∙ swap K t (c.point ⟶ next N e cs fb) (z ⟶ c.point))) (nn_pos K m.1.0) in
          let below : Passes p₀ c.point cs × LastOn t z c.point cs = down p₀ p kept fr c.point cs m.2 pa.1 m.1.1 on in
          (record { arm = m.0; passes = (crosses_new p₀ p kept fr z c.point pa.0 (nn_eq K (sym (to_head K t z c.point z ∙ self K (other t) (z ⟶ c.point))) (nn_nil K)), below.0); convex = m.1 }, below.1, m.3)

      -- a new end, hooked on to the chain on its own side: the invariant stays, and the new end lies on the proper side of the last edge
      pub hooked : (cs ks : List (Vertex A)) → Wing p ps cs → Trims K e t z fb (end t p ∷ cs) ks → Winged (last (end t p).point cs) p₀ (p ∷ ps) ks
      hooked cs ks w tr = wing (last (end t p).point cs) ks (met cs ks w tr)

    pub wing_thread : (p : Portal A) (ps : List (Portal A)) (cs : List (Vertex A)) → Stem e fb rest → Wing p ps cs → Thread N e (end t p).point (ps ++ rest) (bends t cs ++ fb)
    wing_thread p ps cs stem w = thread_of stem w.arm w.convex

    -- ---- the chain on the other side of a new end
    module _ (p₀ p : Portal A) (kept : end t p ≡ end t p₀) (fr : Pos (veer N (other t) ((end (other t) p₀).point ⟶ (end t p).point) ((end (other t) p₀).point ⟶ (end (other t) p).point))) where
      abbrev y° : Vec A
      y° = (end (other t) p₀).point

      crosses_new° : (u w : Vec A) → Crosses N u w p → Nn N (veer N (other t) (u ⟶ w) (u ⟶ y°)) → Crosses N u w p₀
      crosses_new° u w h k = both t (λ s. Nn N (veer N s (u ⟶ w) (u ⟶ (end s p₀).point))) (subst (λ m. Nn N (veer N t (u ⟶ w) (u ⟶ m.point))) kept (h t)) k

      -- up the chain by the front lemma
      up : (x : Vec A) (cs : List (Vertex A)) → Faces p x → Passes p x cs → Convex x cs → LastOn (other t) y° x cs → Passes p₀ x cs × Nn N (veer N (other t) (x ⟶ next N e cs fb) (x ⟶ y°))
      up x [] fa h cv on = (crosses_new° x (aim N e fb) h on, on)
      up x (d ∷ cs) fa h cv on =
          let fd : Faces p d.point = faces_next x d.point p fa h.0 in
          let above : Passes p₀ d.point cs × Nn N (veer N (other t) (d.point ⟶ next N e cs fb) (d.point ⟶ y°)) = up d.point cs fd h.1 cv.1 on in
          let n : Vec A = (end (other t) p).point ⟶ d.point in
          let o : Vec A = (end t p).point ⟶ d.point in
          let w : Vec A = next N e cs fb in
          let zx : Pos (veer N t (x ⟶ d.point) (y° ⟶ d.point)) = fore K t (x ⟶ d.point) (d.point ⟶ w) n o (y° ⟶ d.point) cv.0
          (seen_in° t x d.point p h.0) (seen_out° t d.point w p (out p d.point cs h.1)) (faces° t p d.point fd)
          (pos_eq K (fore_at° t d.point (end (other t) p).point (end t p).point y°) fr) (nn_eq K (to_tail° t d.point w y°) above.1) in
          let on' : Nn N (veer N (other t) (x ⟶ d.point) (x ⟶ y°)) = nn_eq K (sym (to_head° t x d.point y°)) (nn_pos K zx) in
          ((crosses_new° x d.point h.0 on', above.0), on')

      -- a new end across, that lies on the proper side of the last edge: the invariant stays
      pub stays : (ps : List (Portal A)) (cs : List (Vertex A)) → Wing p ps cs → LastOn (other t) y° (end t p).point cs → Wing p₀ (p ∷ ps) cs
      stays ps cs w on =
          let same : (end t p).point ≡ (end t p₀).point = ap (λ m. m.point) kept in
          record { arm = subst (λ x. Arm x cs (p ∷ ps)) same (over w.passes w.arm); passes = subst (λ x. Passes p₀ x cs) same (up (end t p).point cs (faces_end t p) w.passes w.convex on).0; convex = subst (λ x. Convex x cs) same w.convex }
