-- Runs: the portals that share an end, seen from it. Their rays sweep (`sweep`), and a string that leaves the shared vertex lies in one of their sectors (`within`).
-- The fan bound gives a fan round either end of every portal, with the vertex or start before it as the first ray (`first_fans`, `next_fans`).
use Rattle.std.proofs.Common.{◌≡◌, ◌⊎◌, List, [], ◌∷◌, sym, refl, ap, ◌∙◌, subst, inl, inr}
use Rattle.algebra.specs.Arithmetic.{Arithmetic, Nn}
use Rattle.algebra.specs.Plane.{Vec, ◌⟶◌ as ◌⇢◌}
use Rattle.algebra.proofs.RingSolver.{CommRing, at}
use Rattle.algebra.proofs.OrderedRing.{OrderedRing, base, pos_eq, nn_eq, nn_nil}
use Rattle.taut.specs.declared.Side.{Side}
use Rattle.taut.specs.declared.Side.TheVariants.{Left, Right}
use Rattle.taut.specs.Sleeve.{other, Portal, end, veer, Front, Keeps, Link, Ahead}
use Rattle.taut.specs.TautString.{Bend, Crosses, Turns, aim}
use Rattle.taut.specs.Fan.{Sweeps, Within, Fan, Run, ends, leaves, goes_on, Round}
use Rattle.taut.proofs.Veer.{swap, self, still}
use Rattle.taut.proofs.Sides.{which}
use Rattle.taut.proofs.Portals.{front_from}
use Rattle.taut.proofs.Thread.{Thread, pass, bend_at, crossing, arrives}
use Rattle.taut.proofs.FanParts.{fan_tail}

module _ (K : OrderedRing) (e : Vec K.numbers.carrier) where
  abbrev N : Arithmetic
  N = K.numbers

  abbrev R : CommRing
  R = base K

  open N use {carrier as A, Pos}
  open N.ops use {nil as 𝟘, neg as -◌}
  open K.laws.order use {pos_nil}

  infix 75 -◌
  infix 73 ◌⟶◌
  abbrev ◌⟶◌ : Vec A → Vec A → Vec A
  v ⟶ w = ◌⇢◌ N v w

  -- the first, if the end on that side is kept
  abbrev pub choose : {X Y C : Type 0} → Side → X ⊎ Y → C → C → C
  choose Left (inl k) a b = a
  choose Left (inr k) a b = b
  choose Right (inl k) a b = b
  choose Right (inr k) a b = a

  by_link : (s : Side) (p q : Portal A) (l : Link N p q) (P : List (Vec A) → Type 0) (a b : List (Vec A)) → (Keeps N s p q → P a) → (Keeps N (other s) p q → Front N p (end s q).point → P b) → P (choose s l a b)
  by_link Left p q (inl k) P a b f g = f k
  by_link Left p q (inr k) P a b f g = g k k.1
  by_link Right p q (inl k) P a b f g = g k k.1
  by_link Right p q (inr k) P a b f g = f k

  -- seen from v, the end of p on side s: the ends across along the run, and the vertex after it
  abbrev pub rays : (s : Side) (v : Vec A) (p : Portal A) (ps : List (Portal A)) → Ahead N e p ps → List (Vec A)
  rays s v p [] h = (v ⟶ e) ∷ []
  rays s v p (q ∷ ps) h = choose s h.0 ((v ⟶ (end (other s) q).point) ∷ rays s v q ps h.1) ((v ⟶ (end s q).point) ∷ [])

  -- the vertex or start y before p, the end across and the rays of the run make a fan, round either end of p
  abbrev pub Fans : Vec A → (p : Portal A) (ps : List (Portal A)) → Ahead N e p ps → Type 0
  Fans y p ps h = (s : Side) → Fan N s (((end s p).point ⟶ y) ∷ ((end s p).point ⟶ (end (other s) p).point) ∷ rays s (end s p).point p ps h)

  pub sweep : (s : Side) (v : Vec A) (p : Portal A) (ps : List (Portal A)) (h : Ahead N e p ps) → (end s p).point ≡ v → Sweeps N s (v ⟶ (end (other s) p).point) (rays s v p ps h)
  sweep s v p [] h is = (front_from K s p v e is h, tt)
  sweep s v p (q ∷ ps) h is = by_link s p q h.0 (λ rs. Sweeps N s (v ⟶ (end (other s) p).point) rs) ((v ⟶ (end (other s) q).point) ∷ rays s v q ps h.1) ((v ⟶ (end s q).point) ∷ [])
      (λ k. (front_from K s p v (end (other s) q).point is k.1, sweep s v q ps h.1 (ap (λ m. m.point) k.0 ∙ is)))
      (λ k f. (front_from K s p v (end s q).point is f, tt))

  no_turn : (t : Side) (v w x : Vec A) → w ≡ v → Turns N t v w x → ⊥
  no_turn t v w x is h = pos_nil (pos_eq K (still K t v (v ⟶ x)) (subst (λ u. Pos (veer N t (v ⟶ u) (u ⟶ x))) is h))

  behind : (s : Side) (v w : Vec A) (p : Portal A) → Crosses N v w p → Nn N (veer N s (v ⟶ (end (other s) p).point) (v ⟶ w))
  behind s v w p c = nn_eq K (swap K s (v ⟶ w) (v ⟶ (end (other s) p).point)) (c (other s))

  none_off : (s : Side) (v w x : Vec A) → w ≡ x → Nn N (veer N s (v ⟶ w) (v ⟶ x))
  none_off s v w x is = subst (λ u. Nn N (veer N s (v ⟶ w) (v ⟶ u))) is (nn_eq K (sym (self K s (v ⟶ w))) (nn_nil K))

  -- at a portal that keeps the end: the string passes it, or bends there at the end across
  kept_case : (s : Side) (v : Vec A) (q : Portal A) (ps : List (Portal A)) (h : Ahead N e q ps) (r : Vec A) → (end s q).point ≡ v → (bs : List (Bend A)) → Thread N e v (q ∷ ps) bs → Nn N (veer N s r (v ⟶ aim N e bs))
      → (Thread N e v ps bs → Crosses N v (aim N e bs) q → Within N s (v ⟶ aim N e bs) (v ⟶ (end (other s) q).point) (rays s v q ps h)) → Within N s (v ⟶ aim N e bs) r ((v ⟶ (end (other s) q).point) ∷ rays s v q ps h)
  kept_case s v q ps h r is bs (pass c st) ro f = inr (f st c)
  kept_case s v q ps h r is bs' (bend_at {b = b} {bs = bs} c at tu st) ro f = elim (which s b.side) [
    | inl k ↦ absurd (no_turn b.side v b.vertex.point (aim N e bs) (ap (λ m. m.point) (sym (subst (λ x. end x q ≡ b.vertex) k at)) ∙ is) tu)
    | inr k ↦ inl (ro, none_off s v b.vertex.point (end (other s) q).point (ap (λ m. m.point) (sym (subst (λ x. end x q ≡ b.vertex) k at))))
  ]

  pub within : (s : Side) (v : Vec A) (p : Portal A) (ps : List (Portal A)) (h : Ahead N e p ps) → (end s p).point ≡ v → (bs : List (Bend A)) → Thread N e v ps bs → Crosses N v (aim N e bs) p → Within N s (v ⟶ aim N e bs) (v ⟶ (end (other s) p).point) (rays s v p ps h)
  within s v p [] h is bs st c = inl (behind s v (aim N e bs) p c, none_off s v (aim N e bs) e (arrives N st))
  within s v p (q ∷ ps) h is bs st c = by_link s p q h.0 (λ rs. Within N s (v ⟶ aim N e bs) (v ⟶ (end (other s) p).point) rs) ((v ⟶ (end (other s) q).point) ∷ rays s v q ps h.1) ((v ⟶ (end s q).point) ∷ [])
      (λ k. kept_case s v q ps h.1 (v ⟶ (end (other s) p).point) (ap (λ m. m.point) k.0 ∙ is) bs st (behind s v (aim N e bs) p c) (λ st' c'. within s v q ps h.1 (ap (λ m. m.point) k.0 ∙ is) bs st' c'))
      (λ k f. inl (behind s v (aim N e bs) p c, crossing N st s))

  -- ---- the rays of a run, as specs/Fan has them
  pub run_rays : (s : Side) (v : Vec A) (p : Portal A) (ps : List (Portal A)) (h : Ahead N e p ps) → (end s p).point ≡ v → Run N s e p ps (rays s v p ps h)
  run_rays s v p [] h is = subst (λ u. Run N s e p [] ((u ⟶ e) ∷ [])) is ends
  run_rays s v p (q ∷ ps) h is = by_link s p q h.0 (Run N s e p (q ∷ ps)) ((v ⟶ (end (other s) q).point) ∷ rays s v q ps h.1) ((v ⟶ (end s q).point) ∷ [])
      (λ k. subst (λ u. Run N s e p (q ∷ ps) ((u ⟶ (end (other s) q).point) ∷ rays s v q ps h.1)) is (goes_on k (run_rays s v q ps h.1 (ap (λ m. m.point) k.0 ∙ is))))
      (λ k f. subst (λ u. Run N s e p (q ∷ ps) ((u ⟶ (end s q).point) ∷ [])) is (leaves k))

  fan_of : (s : Side) (y : Vec A) (p : Portal A) (ps : List (Portal A)) (h : Ahead N e p ps) → Round N s y p ps e → Fan N s (((end s p).point ⟶ y) ∷ ((end s p).point ⟶ (end (other s) p).point) ∷ rays s (end s p).point p ps h)
  fan_of s y p ps h r = r (rays s (end s p).point p ps h) (run_rays s (end s p).point p ps h refl)

  pub first_fans : (y : Vec A) (p : Portal A) (ps : List (Portal A)) (h : Ahead N e p ps) → ((t : Side) → Round N t y p ps e) → Fans y p ps h
  first_fans y p ps h r s = fan_of s y p ps h (r s)

  -- the run that goes on has lost its first ray; the other run begins
  pub next_fans : (y : Vec A) (p q : Portal A) (ps : List (Portal A)) (l : Link N p q) (h : Ahead N e q ps) → Fans y p (q ∷ ps) (l, h) → ((t : Side) → Keeps N (other t) p q → Round N t (end t p).point q ps e) → Fans (choose Left l p.right.point p.left.point) q ps h
  next_fans y p q ps (inl k) h f r Left = subst (λ m. Fan N Left ((m.point ⟶ p.right.point) ∷ (m.point ⟶ q.right.point) ∷ rays Left m.point q ps h)) (sym k.0) (fan_tail K Left (p.left.point ⟶ y) ((p.left.point ⟶ p.right.point) ∷ (p.left.point ⟶ q.right.point) ∷ rays Left p.left.point q ps h) (f Left))
  next_fans y p q ps (inl k) h f r Right = fan_of Right p.right.point q ps h (r Right k)
  next_fans y p q ps (inr k) h f r Left = fan_of Left p.left.point q ps h (r Left k)
  next_fans y p q ps (inr k) h f r Right = subst (λ m. Fan N Right ((m.point ⟶ p.left.point) ∷ (m.point ⟶ q.left.point) ∷ rays Right m.point q ps h)) (sym k.0) (fan_tail K Right (p.right.point ⟶ y) ((p.right.point ⟶ p.left.point) ∷ (p.right.point ⟶ q.left.point) ∷ rays Right p.right.point q ps h) (f Right))
