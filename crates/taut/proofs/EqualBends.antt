-- Equal bends mean equal walks. Two sleeves from one start have some portals in common and part in one triangle; they have no taut strings with the same bends and the same end.
-- Both strings are walked along the common portals (`lock`). Where one bends and the other does not yet, its bend is put off to the next portal; or the corner lies strictly behind that portal, and the other never comes to it.
-- At the last common portal one sign-chase excludes that only one of them bends (`frontier`). Then both leave one point for one corner through the two portals of the triangle: a fork (Fork).
-- If one of the walks ends in the triangle, the end point lies strictly behind the other's next portal.
use Rattle.std.proofs.Common.{◌≡◌, List, [], ◌∷◌, ◌++◌, sym, ap, ◌∙◌, subst, inl, inr}
use Rattle.algebra.specs.Arithmetic.{Arithmetic, Nn}
use Rattle.algebra.specs.Plane.{Vec, ◌⟶◌ as ◌⇢◌}
use Rattle.algebra.proofs.OrderedRing.{OrderedRing, pos_eq, nn_eq, nn_pos, signs}
use Rattle.taut.specs.declared.Side.{Side}
use Rattle.taut.specs.declared.Side.TheVariants.{Left, Right}
use Rattle.taut.specs.Sleeve.{other, Portal, end, veer, Front, Behind, Keeps, Link, Ahead, Sleeve}
use Rattle.taut.specs.TautString.{Bend, Crosses, Turns, aim}
use Rattle.taut.specs.EqualBends.{last_portal, Fork, OneFan}
use Rattle.taut.proofs.Sides.{which}
use Rattle.taut.proofs.Veer.{swap, three, from_head, cyc}
use Rattle.taut.proofs.Portals.{keeps, front, front_from, behind_replaced}
use Rattle.taut.proofs.Thread.{Thread, arrive, pass, bend_at, crossing, first_turn, Taut}
use Rattle.taut.proofs.Along.{goes_somewhere}
use Rattle.taut.proofs.Parted.{delay}
use Rattle.taut.proofs.Fork.{Moves, moves_after, moves_before, never_behind, no_fork}

module _ (K : OrderedRing) (e : Vec K.numbers.carrier) where
  abbrev N : Arithmetic
  N = K.numbers

  open N use {carrier as A, Pos}
  open K.laws.order use {pos_nil}

  infix 73 ◌⟶◌
  abbrev ◌⟶◌ : Vec A → Vec A → Vec A
  v ⟶ w = ◌⇢◌ N v w

  -- ---- the first string bends at r, an end of p that the other keeps
  bends_early : (t : Side) (v r w l x : Vec A) → Nn N (veer N t (v ⟶ r) (v ⟶ x)) → Nn N (veer N (other t) (r ⟶ w) (r ⟶ x)) → Nn N (veer N t (v ⟶ r) (v ⟶ l)) → Nn N (veer N t (r ⟶ w) (r ⟶ l)) → Pos (veer N t (r ⟶ x) (r ⟶ l)) → Turns N (other t) v r w → ⊥
  bends_early t v r w l x dx cx dl cl xl tu =
      let dx' : Nn N (veer N t (v ⟶ r) (r ⟶ x)) = nn_eq K (from_head K t v r x) dx in
      let dl' : Nn N (veer N t (v ⟶ r) (r ⟶ l)) = nn_eq K (from_head K t v r l) dl in
      let xc : Nn N (veer N t (r ⟶ x) (r ⟶ w)) = nn_eq K (swap K t (r ⟶ w) (r ⟶ x)) cx in
      let cd : Pos (veer N t (r ⟶ w) (v ⟶ r)) = pos_eq K (swap K t (v ⟶ r) (r ⟶ w)) tu in
      pos_nil (pos_eq K (three K t (v ⟶ r) (r ⟶ l) (r ⟶ w) (r ⟶ x)) (search signs depth 8))

  -- q₁ keeps the end of p on side t, q₂ the other; the first string bends at p, and the second does not
  frontier : (t : Side) (p q₁ q₂ : Portal A) (ps₁ ps₂ : List (Portal A)) → end t q₁ ≡ end t p → Front N p (end (other t) q₁).point → Keeps N (other t) p q₂ → end (other t) q₁ ≡ end t q₂ → Ahead N e q₂ ps₂
      → (v : Vec A) (b : Bend A) (bs : List (Bend A)) → Crosses N v b.vertex.point p → end b.side p ≡ b.vertex → Turns N b.side v b.vertex.point (aim N e bs) → Thread N e b.vertex.point (q₁ ∷ ps₁) bs → Thread N e v (q₂ ∷ ps₂) (b ∷ bs) → ⊥
  frontier t p q₁ q₂ ps₁ ps₂ kept fr k₂ shared h₂ v b bs c is tu st₁ st₂ = elim (which t b.side) [
    | inl s ↦
        let at : (end t p).point ≡ b.vertex.point = ap (λ m. m.point) (ap (λ r. end r p) (sym s) ∙ is) in
        never_behind K e q₂ ps₂ h₂ v (b ∷ bs) (moves_before K e b.side v b.vertex.point (aim N e bs) tu) (subst (Behind N q₂) at (behind_replaced K t p q₂ k₂)) st₂
    | inr s ↦
        let r : Vec A = (end (other t) p).point in
        let at : b.vertex.point ≡ r = ap (λ m. m.point) (sym is ∙ ap (λ r. end r p) s) in
        let w : Vec A = aim N e bs in
        let x : Vec A = (end (other t) q₁).point in
        bends_early t v r w (end t p).point x
        (subst (λ u. Nn N (veer N t (v ⟶ u) (v ⟶ x))) at (subst (λ m. Nn N (veer N t (v ⟶ b.vertex.point) (v ⟶ m.point))) (sym shared) (crossing N st₂ t)))
        (subst (λ u. Nn N (veer N (other t) (u ⟶ w) (u ⟶ x))) at (crossing N st₁ (other t)))
        (subst (λ u. Nn N (veer N t (v ⟶ u) (v ⟶ (end t p).point))) at (c t))
        (subst (λ u. Nn N (veer N t (u ⟶ w) (u ⟶ (end t p).point))) at (subst (λ m. Nn N (veer N t (b.vertex.point ⟶ w) (b.vertex.point ⟶ m.point))) kept (crossing N st₁ t)))
        (pos_eq K (cyc K t (end t p).point r x) (front K t p x fr))
        (subst (λ u. Turns N (other t) v u w) at (subst (λ z. Turns N z v b.vertex.point w) s tu))
  ]

  -- ---- one bends at a common portal p, and the other does not yet; c is the next portal
  catch_up : (p c : Portal A) (ps₁ ps₂ : List (Portal A)) → Link N p c → Ahead N e c ps₂ → (v : Vec A) (b : Bend A) (bs : List (Bend A)) → end b.side p ≡ b.vertex → Turns N b.side v b.vertex.point (aim N e bs) → Thread N e b.vertex.point (c ∷ ps₁) bs → Thread N e v (c ∷ ps₂) (b ∷ bs) → Thread N e v (c ∷ ps₁) (b ∷ bs)
  catch_up p c ps₁ ps₂ l h v b bs is tu st₁ st₂ = elim (keeps K b.side p c l) [
    | inl k ↦ delay K e p c ps₁ v b bs is k.0 tu (crossing N st₂ (other b.side)) st₁
    | inr k ↦ absurd (never_behind K e c ps₂ h v (b ∷ bs) (moves_before K e b.side v b.vertex.point (aim N e bs) tu) (subst (λ m. Behind N c m.point) is (behind_replaced K b.side p c k)) st₂)
  ]

  module _ (q₁ q₂ : Portal A) (ps₁ ps₂ : List (Portal A)) (fan : OneFan N e q₁ ps₁ q₂ ps₂) where
    triangle : (p : Portal A) → Fork N p q₁ q₂ → Pos (veer N Left (q₁.right.point ⟶ q₁.left.point) (q₁.right.point ⟶ q₂.right.point))
    triangle p f = subst (λ m. Pos (veer N Left (q₁.right.point ⟶ m.point) (q₁.right.point ⟶ q₂.right.point))) (sym f.first.0)
        (subst (λ m. Pos (veer N Left (q₁.right.point ⟶ p.left.point) (q₁.right.point ⟶ m.point))) (sym f.second.0) (pos_eq K (sym (cyc K Left q₁.right.point p.left.point p.right.point)) f.first.1))

    lock : (ps : List (Portal A)) (p : Portal A) → Fork N (last_portal p ps) q₁ q₂ → Ahead N e p (ps ++ (q₁ ∷ ps₁)) → Ahead N e p (ps ++ (q₂ ∷ ps₂)) → (v : Vec A) (bs : List (Bend A)) → Moves K e v (aim N e bs) → Thread N e v (p ∷ (ps ++ (q₁ ∷ ps₁))) bs → Thread N e v (p ∷ (ps ++ (q₂ ∷ ps₂))) bs → ⊥
    lock [] p f h₁ h₂ v bs mv (pass c₁ st₁) (pass c₂ st₂) = no_fork K e q₁ q₂ ps₁ ps₂ h₁.1 h₂.1 f.shared (triangle p f) fan v bs mv st₁ st₂
    lock [] p f h₁ h₂ v bs₀ mv (bend_at {b = b} {bs = bs} c₁ is₁ tu₁ st₁) (bend_at c₂ is₂ tu₂ st₂) = no_fork K e q₁ q₂ ps₁ ps₂ h₁.1 h₂.1 f.shared (triangle p f) fan b.vertex.point bs (moves_after K e b.side v b.vertex.point (aim N e bs) tu₁) st₁ st₂
    lock [] p f h₁ h₂ v bs₀ mv (bend_at {b = b} {bs = bs} c₁ is₁ tu₁ st₁) (pass c₂ st₂) = frontier Left p q₁ q₂ ps₁ ps₂ f.first.0 f.first.1 f.second f.shared h₂.1 v b bs c₁ is₁ tu₁ st₁ st₂
    lock [] p f h₁ h₂ v bs₀ mv (pass c₁ st₁) (bend_at {b = b} {bs = bs} c₂ is₂ tu₂ st₂) = frontier Right p q₂ q₁ ps₂ ps₁ f.second.0 f.second.1 f.first (sym f.shared) h₁.1 v b bs c₂ is₂ tu₂ st₂ st₁
    lock (c ∷ ps) p f h₁ h₂ v bs mv (pass c₁ st₁) (pass c₂ st₂) = lock ps c f h₁.1 h₂.1 v bs mv st₁ st₂
    lock (c ∷ ps) p f h₁ h₂ v bs₀ mv (bend_at {b = b} {bs = bs} c₁ is₁ tu₁ st₁) (bend_at c₂ is₂ tu₂ st₂) = lock ps c f h₁.1 h₂.1 b.vertex.point bs (moves_after K e b.side v b.vertex.point (aim N e bs) tu₁) st₁ st₂
    lock (c ∷ ps) p f h₁ h₂ v bs₀ mv (bend_at {b = b} {bs = bs} c₁ is₁ tu₁ st₁) (pass c₂ st₂) = lock ps c f h₁.1 h₂.1 v (b ∷ bs) mv (catch_up p c (ps ++ (q₁ ∷ ps₁)) (ps ++ (q₂ ∷ ps₂)) h₁.0 h₂.1 v b bs is₁ tu₁ st₁ st₂) st₂
    lock (c ∷ ps) p f h₁ h₂ v bs₀ mv (pass c₁ st₁) (bend_at {b = b} {bs = bs} c₂ is₂ tu₂ st₂) = lock ps c f h₁.1 h₂.1 v (b ∷ bs) mv st₁ (catch_up p c (ps ++ (q₂ ∷ ps₂)) (ps ++ (q₁ ∷ ps₁)) h₂.0 h₁.1 v b bs is₂ tu₂ st₂ st₁)

  -- the same for the side at which it bends
  bends_early' : (s : Side) (v r w l x : Vec A) → Nn N (veer N (other s) (v ⟶ r) (v ⟶ x)) → Nn N (veer N s (r ⟶ w) (r ⟶ x)) → Nn N (veer N (other s) (v ⟶ r) (v ⟶ l)) → Nn N (veer N (other s) (r ⟶ w) (r ⟶ l)) → Pos (veer N (other s) (r ⟶ x) (r ⟶ l)) → Turns N s v r w → ⊥
  bends_early' Left = bends_early Right
  bends_early' Right = bends_early Left

  behind_from : (s : Side) (q : Portal A) (z : Vec A) → Behind N q z → Pos (veer N s ((end s q).point ⟶ z) ((end s q).point ⟶ (end (other s) q).point))
  behind_from Left q z h = h
  behind_from Right q z h = pos_eq K (cyc K Left q.left.point z q.right.point ∙ cyc K Left z q.right.point q.left.point) h

  -- ---- one walk ends in the triangle behind p, and the other goes on through q
  module _ (q : Portal A) (qs : List (Portal A)) (bh : Behind N q e) where
    ends_early : (ps : List (Portal A)) (p : Portal A) → Ahead N e p ps → Ahead N e p (ps ++ (q ∷ qs)) → (v : Vec A) (bs : List (Bend A)) → Moves K e v (aim N e bs) → Thread N e v (p ∷ ps) bs → Thread N e v (p ∷ (ps ++ (q ∷ qs))) bs → ⊥
    ends_early [] p h₁ h₂ v bs mv (pass c₁ arrive) (pass c₂ st₂) = never_behind K e q qs h₂.1 v [] mv bh st₂
    ends_early [] p h₁ h₂ v bs mv (bend_at {b = b} c₁ is₁ tu₁ arrive) (bend_at c₂ is₂ tu₂ st₂) = never_behind K e q qs h₂.1 b.vertex.point [] (moves_after K e b.side v b.vertex.point e tu₁) bh st₂
    ends_early [] p h₁ h₂ v bs mv (bend_at {b = b} c₁ is₁ tu₁ arrive) (pass c₂ st₂) = elim (keeps K b.side p q h₂.0) [
      | inl k ↦
          let s : Side = b.side in
          let r : Vec A = b.vertex.point in
          let at : (end s p).point ≡ r = ap (λ m. m.point) is₁ in
          let x : Vec A = (end (other s) q).point in
          let l : Vec A = (end (other s) p).point in
          bends_early' s v r e l x (crossing N st₂ (other s))
          (nn_pos K (subst (λ u. Pos (veer N s (u ⟶ e) (u ⟶ x))) (ap (λ m. m.point) k.0 ∙ at) (behind_from s q e bh)))
          (c₁ (other s)) (nn_pos K (pos_eq K (sym (swap K s (r ⟶ e) (r ⟶ l))) (front_from K s p r e at h₁)))
          (pos_eq K (sym (swap K s (r ⟶ x) (r ⟶ l))) (front_from K s p r x at k.1)) tu₁
      | inr k ↦ never_behind K e q qs h₂.1 v (b ∷ []) (moves_before K e b.side v b.vertex.point e tu₁) (subst (λ m. Behind N q m.point) is₁ (behind_replaced K b.side p q k)) st₂
    ]
    ends_early (c ∷ ps) p h₁ h₂ v bs mv (pass c₁ st₁) (pass c₂ st₂) = ends_early ps c h₁.1 h₂.1 v bs mv st₁ st₂
    ends_early (c ∷ ps) p h₁ h₂ v bs₀ mv (bend_at {b = b} {bs = bs} c₁ is₁ tu₁ st₁) (bend_at c₂ is₂ tu₂ st₂) = ends_early ps c h₁.1 h₂.1 b.vertex.point bs (moves_after K e b.side v b.vertex.point (aim N e bs) tu₁) st₁ st₂
    ends_early (c ∷ ps) p h₁ h₂ v bs₀ mv (bend_at {b = b} {bs = bs} c₁ is₁ tu₁ st₁) (pass c₂ st₂) = ends_early ps c h₁.1 h₂.1 v (b ∷ bs) mv (catch_up p c ps (ps ++ (q ∷ qs)) h₁.0 h₂.1 v b bs is₁ tu₁ st₁ st₂) st₂
    ends_early (c ∷ ps) p h₁ h₂ v bs₀ mv (pass c₁ st₁) (bend_at {b = b} {bs = bs} c₂ is₂ tu₂ st₂) = ends_early ps c h₁.1 h₂.1 v (b ∷ bs) mv st₁ (catch_up p c (ps ++ (q ∷ qs)) ps h₂.0 h₁.1 v b bs is₂ tu₂ st₂ st₁)

  -- ---- the strings of the sleeves
  moving : (s : Vec A) (p : Portal A) (ps : List (Portal A)) (bs : List (Bend A)) → Taut N s (p ∷ ps) e bs → Moves K e s (aim N e bs)
  moving s p ps [] h = goes_somewhere K s e h.stretched
  moving s p ps (b ∷ bs) h = moves_before K e b.side s b.vertex.point (aim N e bs) (first_turn N h.thread)

  pub no_two : (s : Vec A) (bs : List (Bend A)) (p : Portal A) (ps : List (Portal A)) (q₁ q₂ : Portal A) (ps₁ ps₂ : List (Portal A)) → Fork N (last_portal p ps) q₁ q₂ → OneFan N e q₁ ps₁ q₂ ps₂
      → Sleeve N s (p ∷ (ps ++ (q₁ ∷ ps₁))) e → Taut N s (p ∷ (ps ++ (q₁ ∷ ps₁))) e bs → Sleeve N s (p ∷ (ps ++ (q₂ ∷ ps₂))) e → Taut N s (p ∷ (ps ++ (q₂ ∷ ps₂))) e bs → ⊥
  no_two s bs p ps q₁ q₂ ps₁ ps₂ f fan h₁ t₁ h₂ t₂ = lock q₁ q₂ ps₁ ps₂ fan ps p f h₁.1 h₂.1 s bs (moving s p (ps ++ (q₁ ∷ ps₁)) bs t₁) t₁.thread t₂.thread

  pub no_two_at_start : (s : Vec A) (bs : List (Bend A)) (q₁ q₂ : Portal A) (ps₁ ps₂ : List (Portal A)) → q₁.right ≡ q₂.left → Pos (veer N Left (q₁.right.point ⟶ q₁.left.point) (q₁.right.point ⟶ q₂.right.point)) → OneFan N e q₁ ps₁ q₂ ps₂
      → Sleeve N s (q₁ ∷ ps₁) e → Taut N s (q₁ ∷ ps₁) e bs → Sleeve N s (q₂ ∷ ps₂) e → Taut N s (q₂ ∷ ps₂) e bs → ⊥
  no_two_at_start s bs q₁ q₂ ps₁ ps₂ shared tri fan h₁ t₁ h₂ t₂ = no_fork K e q₁ q₂ ps₁ ps₂ h₁.1 h₂.1 shared tri fan s bs (moving s q₁ ps₁ bs t₁) t₁.thread t₂.thread

  pub no_stop_before : (s : Vec A) (bs : List (Bend A)) (p : Portal A) (ps : List (Portal A)) (q : Portal A) (qs : List (Portal A)) → Behind N q e
      → Sleeve N s (p ∷ ps) e → Taut N s (p ∷ ps) e bs → Sleeve N s (p ∷ (ps ++ (q ∷ qs))) e → Taut N s (p ∷ (ps ++ (q ∷ qs))) e bs → ⊥
  no_stop_before s bs p ps q qs bh h₁ t₁ h₂ t₂ = ends_early q qs bh ps p h₁.1 h₂.1 s bs (moving s p ps bs t₁) t₁.thread t₂.thread

  pub no_stop_at_start : (s : Vec A) (q : Portal A) (qs : List (Portal A)) → Behind N q e → Sleeve N s (q ∷ qs) e → Taut N s (q ∷ qs) e [] → ⊥
  no_stop_at_start s q qs bh h t = never_behind K e q qs h.1 s [] (moving s q qs [] t) bh t.thread
