-- Existence. Every sleeve whose runs make fans has a taut string: the one that the funnel on lists finds.
use Rattle.std.proofs.Common.{◌≡◌, ℕ, suc, Bool, true, false, cond, T, eqb, List, [], ◌∷◌, ◌++◌, reverse, sym, refl, ap, ◌∙◌, subst, inl, inr, arith, eqb→eq}
use mathlib.Core.List.{reverse-reverse}
use lib.Dec.{eqb_refl}
use Rattle.algebra.specs.Arithmetic.{Arithmetic, Nn}
use Rattle.algebra.specs.Plane.{Vec, less, ◌⊗◌, ◌⟶◌ as ◌⇢◌}
use Rattle.algebra.proofs.RingSolver.{CommRing, ◌:-◌, :-◌, ◌:=◌, E}
use Rattle.algebra.proofs.OrderedRing.{OrderedRing, base, pos_eq, nn_eq, clash, nn_pos}
use Rattle.algebra.proofs.PlaneSolver.{◌:×◌, ring_v}
use Rattle.algebra.specs.declared.Sign.{Sign}
use Rattle.taut.specs.declared.Side.{Side}
use Rattle.taut.specs.declared.Side.TheVariants.{Left, Right}
use Rattle.taut.specs.Sleeve.{other, Vertex, Portal, end, veer, Front, Keeps, Link, Ahead, Sleeve}
use Rattle.taut.specs.TautString.{Bend, Crosses, Turns, aim, Stretched, TautString}
use Rattle.taut.specs.Fan.{Within, opposite, LaterRounds, FanBound}
use Rattle.taut.specs.Funnel.{Funnel, bends, Signs, next, settle, gain, widen, funnel_at, funnel}
use Rattle.taut.proofs.Veer.{swap, still, to_apex, behind_is}
use Rattle.taut.proofs.Along.{flipped}
use Rattle.taut.proofs.Portals.{front, ends_zero, starts_zero, crosses}
use Rattle.taut.proofs.Thread.{Thread, arrive, pass, bend_at, Taut}
use Rattle.taut.proofs.IndexForm.{of_taut}
use Rattle.taut.proofs.Runs.{choose, rays, Fans, within, first_fans, next_fans}
use Rattle.taut.proofs.Settling.{none_left, stops_at, dropped, no_chain, passed, halts, stands, Settled, hooks_on, looks, settles}
use Rattle.taut.proofs.Chains.{last, Stem, at_end, at_bend, stop, next_is, edge, Wing, hooked, wing_thread}
use Rattle.taut.proofs.Wedge.{Wedge, open', shut}
use Rattle.taut.proofs.ApexStays.{hooks, sees}
use Rattle.taut.proofs.ChainCut.{fb', Outcome, gone, seen, cut_at, outcome}
use Rattle.taut.proofs.ApexMoves.{Open, moves}
use Rattle.taut.proofs.ApexOnPortal.{Flush, Apart, Result, flush_thread, stay, leave}

module _ (K : OrderedRing) (e : Vec K.numbers.carrier) where
  abbrev N : Arithmetic
  N = K.numbers

  abbrev R : CommRing
  R = base K

  open N use {carrier as A, Pos}
  open N.ops use {nil as 𝟘, neg as -◌}
  open K.laws.order use {pos_nil}

  infix 75 -◌
  infix 73 ◌⟶◌
  abbrev ◌⟶◌ : Vec A → Vec A → Vec A
  v ⟶ w = ◌⇢◌ N v w

  -- ---- the sides of a funnel exchanged
  flip_wedge : (t : Side) (a z : Vec A) → Wedge K t a z → Wedge K (other t) z a
  flip_wedge t a z (open' h) = open' (pos_eq K (sym (swap K t z a)) h)
  flip_wedge t a z (shut q h ah zh) = shut (swap K t z a ∙ q) (opposite N h) (pos_eq K (flipped K t z h) zh) (pos_eq K (flipped K t a h) ah)

  to_right : (p : Portal A) (ps : List (Portal A)) (fb : List (Bend A)) (cs ds : List (Vertex A)) → Open K e Left p ps fb cs ds → Open K e Right p ps fb ds cs
  to_right p ps fb cs ds o = record { rest = o.rest; front = o.front; stem = o.stem; all = o.all; two = record { near = o.two.far; far = o.two.near; gap = flip_wedge Left (last K p.left.point cs ⟶ aim N e fb) (last K p.right.point ds ⟶ aim N e fb) o.two.gap } }

  to_left : (p : Portal A) (ps : List (Portal A)) (fb : List (Bend A)) (cs ds : List (Vertex A)) → Open K e Right p ps fb ds cs → Open K e Left p ps fb cs ds
  to_left p ps fb cs ds o = record { rest = o.rest; front = o.front; stem = o.stem; all = o.all; two = record { near = o.two.far; far = o.two.near; gap = flip_wedge Right (last K p.right.point ds ⟶ aim N e fb) (last K p.left.point cs ⟶ aim N e fb) o.two.gap } }

  -- ---- a string with no bend goes somewhere
  moves_on : (t : Side) (y z : Vec A) → Pos (veer N t (y ⟶ e) z) → ¬ (y ≡ e)
  moves_on t y z h is = pos_nil (pos_eq K (still K t e z) (subst (λ x. Pos (veer N t (x ⟶ e) z)) is h))

  apart_by : (t : Side) (y z : Vec A) → Wedge K t (y ⟶ e) z → ¬ (y ≡ e)
  apart_by t y z (open' h) = moves_on t y z h
  apart_by t y z (shut q h yh zh) = moves_on t y h yh

  apart_of : (t : Side) (fb : List (Bend A)) (cs : List (Vertex A)) (y z : Vec A) → Wedge K t (last K y cs ⟶ aim N e fb) z → Apart K e y (bends t cs ++ fb)
  apart_of t [] [] y z w = apart_by t y z w
  apart_of t (b ∷ fb) [] y z w = tt
  apart_of t fb (c ∷ cs) y z w = tt

  -- the near chain of a funnel is a string from its end
  open_thread : (t : Side) (p : Portal A) (ps : List (Portal A)) (fb : List (Bend A)) (cs ds : List (Vertex A)) → Open K e t p ps fb cs ds → Result K e (end t p).point ps (bends t cs ++ fb)
  open_thread t p ps fb cs ds o = record {
    thread = subst (λ qs. Thread N e (end t p).point qs (bends t cs ++ fb)) (sym o.all) (wing_thread K e fb o.rest t p o.front cs o.stem o.two.near);
    apart = apart_of t fb cs (end t p).point (last K (end (other t) p).point ds ⟶ aim N e fb) o.two.gap;
  }

  -- ---- a new end on side t, with two chains: the apex stays, or moves, or comes to be the end that stays
  data Next (t : Side) (p₀ p : Portal A) (ps : List (Portal A)) (fb : List (Bend A)) (ds : List (Vertex A)) : List (Vertex A) → List (Bend A) → List (Vertex A) → Type 0 where
    still_open : {near : List (Vertex A)} {fb' : List (Bend A)} {ds' : List (Vertex A)} → Open K e t p₀ (p ∷ ps) fb' near ds' → Next t p₀ p ps fb ds near fb' (end (other t) p ∷ ds')
    on_portal : Turns N (other t) (end t p₀).point (end (other t) p).point (next N e ds fb) → Next t p₀ p ps fb ds [] (bends (other t) (end (other t) p ∷ ds) ++ fb) []

  module _ (t : Side) (p₀ p : Portal A) (ps : List (Portal A)) (fb : List (Bend A)) (cs ds : List (Vertex A)) (o : Open K e t p ps fb cs ds) (kept : end (other t) p ≡ end (other t) p₀) (fr : Pos (veer N t ((end t p₀).point ⟶ (end (other t) p).point) ((end t p₀).point ⟶ (end t p).point))) where
    open o use {rest, front as qs, stem, two, all}

    abbrev y : Vec A
    y = (end t p₀).point

    abbrev r : Vec A
    r = (end (other t) p).point

    all₀ : p ∷ ps ≡ (p ∷ qs) ++ rest
    all₀ = ap (λ l. p ∷ l) all

    looked : (fb' : List (Bend A)) (rem : List (Vertex A)) → Nn N (veer N t (last K (end t p).point cs ⟶ aim N e fb) (y ⟶ aim N e fb)) → Outcome K e fb rest (other t) t y (end (other t) p) ds fb' rem → Next t p₀ p ps fb ds [] fb' rem
    looked fb' rem uy (gone tu) = on_portal tu
    looked fb' rem uy (seen h) = still_open (record { rest = rest; front = p ∷ qs; stem = stem; all = all₀; two = sees K e fb rest t p₀ p qs cs ds two kept fr uy (nn_eq K (swap K t (last K r ds ⟶ aim N e fb) (y ⟶ aim N e fb)) h) })
    looked fb' rem uy (cut_at top after pre sp c cv) = still_open (subst (λ l. Open K e t p₀ (p ∷ l) (bends (other t) (top ∷ after) ++ fb) [] pre) (sym all) (moves K e fb rest t p₀ p qs cs ds stem two kept fr top after pre sp c cv))

    stepped : (near rem : List (Vertex A)) (fb' : List (Bend A)) → Settled K e t y fb (end t p ∷ cs) (end (other t) p ∷ ds) near fb' rem → Next t p₀ p ps fb ds near fb' rem
    stepped near rem fb' (hooks_on {ks = ks} {c = c} tr) = still_open (record { rest = rest; front = p ∷ qs; stem = stem; all = all₀; two = hooks K e fb rest t p₀ p qs cs ds two kept fr c ks (hooked K e fb rest t p₀ p qs kept fr cs (c ∷ ks) two.near tr) })
    stepped near rem fb' (looks tr cu) = looked fb' rem (hooked K e fb rest t p₀ p qs kept fr cs [] two.near tr) (outcome K e fb rest (other t) t y (end (other t) p) ds fb' rem two.far.convex cu)

  -- ---- the apex comes to be the end that stays
  module _ (s : Side) (fb : List (Bend A)) (rest : List (Portal A)) (p₀ p : Portal A) (ps qs : List (Portal A)) (ds : List (Vertex A)) (h : Ahead N e p ps) (l : Link N p₀ p) (stem : Stem K e fb rest) (wing : Wing K e fb rest s p qs ds) (all : ps ≡ qs ++ rest)
      (kept : end s p ≡ end s p₀) (fr : Pos (veer N s ((end (other s) p₀).point ⟶ (end (other s) p).point) ((end (other s) p₀).point ⟶ (end s p).point)))
      (tu : Turns N s (end (other s) p₀).point (end s p).point (next N e ds fb)) where
    abbrev z : Vec A
    z = (end (other s) p₀).point

    abbrev bb : List (Bend A)
    bb = bends s ds ++ fb

    tu' : Turns N s z (end s p).point (aim N e bb)
    tu' = subst (Turns N s z (end s p).point) (next_is K e fb rest s ds) tu

    on : Thread N e (end s p).point ps bb
    on = subst (λ l. Thread N e (end s p).point l bb) (sym all) (wing_thread K e fb rest s p qs ds stem wing)

    cr : Crosses N (end s p).point (aim N e bb) p
    cr = edge K e fb rest s p (end s p).point ds wing.passes

    now_thread : Result K e z (p ∷ ps) (record { side = s; vertex = end s p } ∷ bb)
    now_thread = record { thread = bend_at (crosses K s z (end s p).point p (ends_zero K s z (end s p).point (end s p).point refl) (nn_eq K (sym (swap K s (z ⟶ (end s p).point) (z ⟶ (end (other s) p).point))) (nn_pos K fr))) refl tu' on; apart = tt }

    in_run₀ : Within N s ((end s p).point ⟶ aim N e bb) ((end s p).point ⟶ (end (other s) p).point) (rays K e s (end s p).point p ps h)
    in_run₀ = within K e s (end s p).point p ps h refl bb on cr

    now : Within N s ((end s p).point ⟶ aim N e bb) ((end s p).point ⟶ z) (rays K e s (end s p).point p₀ (p ∷ ps) (l, h)) → Flush K e s p₀ (p ∷ ps) (l, h) (end s p) bb
    now w = record {
      pre = [];
      rest = p₀ ∷ p ∷ ps;
      stem = at_bend (sym kept) (pass cr on);
      is = sym kept;
      all = refl;
      rounds = tt;
      first_round = (sym kept, nn_pos K tu');
      arm = stop (crosses K s z (end s p).point p₀ (ends_zero K s z (end s p).point (end s p₀).point (ap (λ k. k.point) (sym kept))) (starts_zero K (other s) z (end s p).point));
      turns = tu';
      in_run = w;
    }

  -- ---- the funnel at a portal, with the portals after it: its chains, each from the portal's end to the apex, and the final bends
  pub data State (p : Portal A) (ps : List (Portal A)) (h : Ahead N e p ps) : List (Vertex A) → List (Bend A) → List (Vertex A) → Type 0 where
    opens : {fb : List (Bend A)} {cs ds : List (Vertex A)} → Open K e Left p ps fb cs ds → State p ps h (p.left ∷ cs) fb (p.right ∷ ds)
    left_apex : {m : Vertex A} {bs : List (Bend A)} → Flush K e Left p ps h m bs → State p ps h [] (record { side = Left; vertex = m } ∷ bs) (p.right ∷ [])
    right_apex : {m : Vertex A} {bs : List (Bend A)} → Flush K e Right p ps h m bs → State p ps h (p.left ∷ []) (record { side = Right; vertex = m } ∷ bs) []

  fronts : (t : Side) (p₀ p : Portal A) → end (other t) p ≡ end (other t) p₀ → Front N p₀ (end t p).point → Pos (veer N t ((end t p₀).point ⟶ (end (other t) p).point) ((end t p₀).point ⟶ (end t p).point))
  fronts t p₀ p kept f = subst (λ m. Pos (veer N t ((end t p₀).point ⟶ m.point) ((end t p₀).point ⟶ (end t p).point))) (sym kept) (front K t p₀ (end t p).point f)

  turned_over : (t : Side) (y r l : Vec A) → veer N (other t) (y ⟶ r) (r ⟶ l) ≡ - (veer N t (y ⟶ r) (y ⟶ l))
  unfolding ◌⊗◌ ◌⇢◌
  turned_over Left = ring_v R 3 0 (λ y r l. less E l r :× less E r y := :- (less E r y :× less E l y)) refl
  turned_over Right = ring_v R 3 0 (λ y r l. less E r y :× less E l r := :- (less E l y :× less E r y)) refl

  turned_over' : (t : Side) (y r l : Vec A) → veer N t (y ⟶ l) (l ⟶ r) ≡ - (veer N t (y ⟶ r) (y ⟶ l))
  unfolding ◌⊗◌ ◌⇢◌
  turned_over' Left = ring_v R 3 0 (λ y r l. less E l y :× less E r l := :- (less E r y :× less E l y)) refl
  turned_over' Right = ring_v R 3 0 (λ y r l. less E r l :× less E l y := :- (less E l y :× less E r y)) refl

  -- the two ends of a portal never turn back over a new end
  no_bend : (t : Side) (y r l : Vec A) → Pos (veer N t (y ⟶ r) (y ⟶ l)) → Turns N (other t) y r l → ⊥
  no_bend t y r l fr tu = clash K fr (pos_eq K (turned_over t y r l) tu)

  no_bend' : (t : Side) (y r l : Vec A) → Pos (veer N t (y ⟶ r) (y ⟶ l)) → Turns N t y l r → ⊥
  no_bend' t y r l fr tu = clash K fr (pos_eq K (turned_over' t y r l) tu)

  -- ---- a new left end
  module _ (p₀ p : Portal A) (ps : List (Portal A)) (h : Ahead N e p ps) (k : Keeps N Right p₀ p) (f : Fans K e p₀.left.point p ps h) where
    abbrev Lefts : List (Vertex A) → List (Bend A) → List (Vertex A) → Type 0
    Lefts near fb far = Result K e p₀.left.point (p ∷ ps) (bends Left near ++ fb) × State p₀ (p ∷ ps) (inr k, h) (p₀.left ∷ near) fb far

    frₗ : Pos (veer N Left (p₀.left.point ⟶ p.right.point) (p₀.left.point ⟶ p.left.point))
    frₗ = fronts Left p₀ p k.0 k.1

    left_next : (fb : List (Bend A)) (cs ds near rem : List (Vertex A)) (fb' : List (Bend A)) → Open K e Left p ps fb cs ds → Next Left p₀ p ps fb ds near fb' rem → Lefts near fb' rem
    left_next fb cs ds near rem fb' o (still_open {ds' = ds'} n) = (open_thread Left p₀ (p ∷ ps) fb' near ds' n, subst (λ m. State p₀ (p ∷ ps) (inr k, h) (p₀.left ∷ near) fb' (m ∷ ds')) (sym k.0) (opens n))
    left_next fb cs ds near rem fb' o (on_portal tu) = (
      now_thread Right fb o.rest p₀ p ps o.front ds h (inr k) o.stem o.two.far o.all k.0 frₗ tu,
      right_apex (now Right fb o.rest p₀ p ps o.front ds h (inr k) o.stem o.two.far o.all k.0 frₗ tu (inr (in_run₀ Right fb o.rest p₀ p ps o.front ds h (inr k) o.stem o.two.far o.all k.0 frₗ tu))),
    )

    pub left_step : (fb fb' : List (Bend A)) (L R₁ near far : List (Vertex A)) → State p ps h L fb R₁ → Settled K e Left p₀.left.point fb L R₁ near fb' far → Lefts near fb' far
    left_step fb fb' L R₁ near far (opens {cs = cs} {ds = ds} o) se = left_next fb cs ds near far fb' o (stepped Left p₀ p ps fb cs ds o k.0 frₗ near far fb' se)
    left_step fb fb' L R₁ near far (left_apex {m = m} {bs = bs} g) (looks none_left (passed no_chain tu)) = absurd (no_bend Left p₀.left.point p.right.point m.point (subst (λ x. Pos (veer N Left (p₀.left.point ⟶ p.right.point) (p₀.left.point ⟶ x.point))) g.is frₗ) tu)
    left_step fb fb' L R₁ near far (left_apex {m = m} {bs = bs} g) (looks none_left (halts no_chain un)) = (
      flush_thread K e Left p ps h m bs g p₀.left.point frₗ (f Left).1,
      subst (λ x. State p₀ (p ∷ ps) (inr k, h) (p₀.left ∷ []) (record { side = Left; vertex = m } ∷ bs) (x ∷ [])) (sym k.0) (opens (leave K e Left p₀ p ps h m bs g k.0 frₗ (f Left).1)),
    )
    left_step fb fb' L R₁ near far (left_apex g) (hooks_on tr) = elim tr [ ]
    left_step fb fb' L R₁ near far (left_apex g) (looks none_left (stands cu)) = elim cu [ ]
    left_step fb fb' L R₁ near far (right_apex g) (hooks_on (dropped un tr)) = elim tr [ ]
    left_step fb fb' L R₁ near far (right_apex {m = m} {bs = bs} g) (hooks_on (stops_at tu)) = absurd (no_bend' Left p₀.left.point m.point p.left.point (subst (λ x. Pos (veer N Left (p₀.left.point ⟶ x.point) (p₀.left.point ⟶ p.left.point))) g.is frₗ) tu)
    left_step fb fb' L R₁ near far (right_apex {m = m} {bs = bs} g) (looks (dropped un none_left) no_chain) = (
      flush_thread K e Right p ps h m bs g p₀.left.point frₗ (f Right).1,
      right_apex (stay K e Right p₀ p ps h (inr k) m bs g k.0 frₗ (f Right).1 (inr g.in_run)),
    )

  -- ---- a new right end
  module _ (p₀ p : Portal A) (ps : List (Portal A)) (h : Ahead N e p ps) (k : Keeps N Left p₀ p) (f : Fans K e p₀.right.point p ps h) where
    abbrev Rights : List (Vertex A) → List (Bend A) → List (Vertex A) → Type 0
    Rights near fb far = State p₀ (p ∷ ps) (inl k, h) far fb (p₀.right ∷ near)

    frᵣ : Pos (veer N Right (p₀.right.point ⟶ p.left.point) (p₀.right.point ⟶ p.right.point))
    frᵣ = fronts Right p₀ p k.0 k.1

    right_next : (fb : List (Bend A)) (cs ds near rem : List (Vertex A)) (fb' : List (Bend A)) → Open K e Right p ps fb ds cs → Next Right p₀ p ps fb cs near fb' rem → Rights near fb' rem
    right_next fb cs ds near rem fb' o (still_open {ds' = cs'} n) = subst (λ m. State p₀ (p ∷ ps) (inl k, h) (m ∷ cs') fb' (p₀.right ∷ near)) (sym k.0) (opens (to_left p₀ (p ∷ ps) fb' cs' near n))
    right_next fb cs ds near rem fb' o (on_portal tu) = left_apex (now Left fb o.rest p₀ p ps o.front cs h (inl k) o.stem o.two.far o.all k.0 frᵣ tu (inr (in_run₀ Left fb o.rest p₀ p ps o.front cs h (inl k) o.stem o.two.far o.all k.0 frᵣ tu)))

    right_step : (fb fb' : List (Bend A)) (L R₁ near far : List (Vertex A)) → State p ps h L fb R₁ → Settled K e Right p₀.right.point fb R₁ L near fb' far → Rights near fb' far
    right_step fb fb' L R₁ near far (opens {cs = cs} {ds = ds} o) se = let o' : Open K e Right p ps fb ds cs = to_right p ps fb cs ds o in right_next fb cs ds near far fb' o' (stepped Right p₀ p ps fb ds cs o' k.0 frᵣ near far fb' se)
    right_step fb fb' L R₁ near far (right_apex g) (hooks_on tr) = elim tr [ ]
    right_step fb fb' L R₁ near far (right_apex g) (looks none_left (stands cu)) = elim cu [ ]
    right_step fb fb' L R₁ near far (left_apex g) (hooks_on (dropped un tr)) = elim tr [ ]
    right_step fb fb' L R₁ near far (right_apex {m = m} {bs = bs} g) (looks none_left (passed no_chain tu)) = absurd (no_bend Right p₀.right.point p.left.point m.point (subst (λ x. Pos (veer N Right (p₀.right.point ⟶ p.left.point) (p₀.right.point ⟶ x.point))) g.is frᵣ) tu)
    right_step fb fb' L R₁ near far (right_apex {m = m} {bs = bs} g) (looks none_left (halts no_chain un)) = subst (λ x. State p₀ (p ∷ ps) (inl k, h) (x ∷ []) (record { side = Right; vertex = m } ∷ bs) (p₀.right ∷ [])) (sym k.0) (opens (to_left p₀ (p ∷ ps) (record { side = Right; vertex = m } ∷ bs) [] [] (leave K e Right p₀ p ps h m bs g k.0 frᵣ (f Right).1)))
    right_step fb fb' L R₁ near far (left_apex {m = m} {bs = bs} g) (hooks_on (stops_at tu)) = absurd (no_bend' Right p₀.right.point m.point p.right.point (subst (λ x. Pos (veer N Right (p₀.right.point ⟶ x.point) (p₀.right.point ⟶ p.right.point))) g.is frᵣ) tu)
    right_step fb fb' L R₁ near far (left_apex {m = m} {bs = bs} g) (looks (dropped un none_left) no_chain) = left_apex (stay K e Left p₀ p ps h (inl k) m bs g k.0 frᵣ (f Left).1 (inr g.in_run))

  -- ---- the funnel at the last portal
  begin : (p : Portal A) → Front N p e → Open K e Left p [] [] [] []
  begin p f = record {
    rest = [];
    front = [];
    stem = at_end;
    all = refl;
    two = record {
      near = record { arm = stop tt; passes = crosses K Left p.left.point e p (starts_zero K Left p.left.point e) (nn_pos K f); convex = tt };
      far = record { arm = stop tt; passes = crosses K Right p.right.point e p (starts_zero K Right p.right.point e) (nn_pos K (front K Right p e f)); convex = tt };
      gap = open' (pos_eq K (to_apex K Left p.left.point p.right.point e) f);
    };
  }

  stretched_of : (s : Vec A) (p : Portal A) (ps : List (Portal A)) (bs : List (Bend A)) → Apart K e s bs → Stretched N s (p ∷ ps) bs e
  stretched_of s p ps [] h = h
  stretched_of s p ps (b ∷ bs) h = tt

  test_true : (m n : ℕ) (X Y : Funnel A) → n ≡ m → cond (eqb m n) X Y ≡ X
  test_true m n X Y is = by (eqb m n) (subst (λ k. T (eqb m k)) (sym is) (eqb_refl m))
    where
      by : (b : Bool) → T b → cond b X Y ≡ X
      by true h = refl
      by false h = absurd h

  test_false : (m n : ℕ) (X Y : Funnel A) → ¬ (n ≡ m) → cond (eqb m n) X Y ≡ Y
  test_false m n X Y ne = by (eqb m n) (λ h. ne (sym (eqb→eq m n h)))
    where
      by : (b : Bool) → ¬ (T b) → cond b X Y ≡ Y
      by true h = absurd (h tt)
      by false h = refl

  -- ---- the function on lists
  module _ (sign : A → Sign) (law : Signs N sign) where
    abbrev Holds : (p : Portal A) (ps : List (Portal A)) → Ahead N e p ps → Funnel A → Type 0
    Holds p ps h f = State p ps h f.near f.final (reverse f.far)

    widened : (p q : Portal A) (ps : List (Portal A)) (l : Link N p q) (h : Ahead N e q ps) (f : Funnel A) → Fans K e (choose K e Left l p.right.point p.left.point) q ps h → Holds q ps h f → Holds p (q ∷ ps) (l, h) (widen N sign e p q f)
    widened p q ps (inl k) h f fans st =
        let g : Funnel A = settle N sign e Right p.right.point (reverse f.far) f.final (reverse f.near) in
        let se : Settled K e Right p.right.point f.final (reverse f.far) f.near g.near g.final (reverse g.far) =
        subst (λ ns. Settled K e Right p.right.point f.final (reverse f.far) ns g.near g.final (reverse g.far)) (reverse-reverse f.near) (settles K sign law e Right p.right.point (reverse f.far) f.final (reverse f.near)) in
        subst (Holds p (q ∷ ps) (inl k, h)) (sym (test_true p.left.number q.left.number (gain N sign e Right p.right f) (gain N sign e Left p.left f) (ap (λ v. v.number) k.0)))
        (subst (λ ns. State p (q ∷ ps) (inl k, h) (reverse g.far) g.final ns) (sym (reverse-reverse (p.right ∷ g.near))) (right_step p q ps h k fans f.final g.final f.near (reverse f.far) g.near (reverse g.far) st se))
    widened p q ps (inr k) h f fans st =
        let g : Funnel A = settle N sign e Left p.left.point f.near f.final f.far in
        subst (Holds p (q ∷ ps) (inr k, h)) (sym (test_false p.left.number q.left.number (gain N sign e Right p.right f) (gain N sign e Left p.left f) k.2))
        (left_step p q ps h k fans f.final g.final f.near (reverse f.far) g.near (reverse g.far) st (settles K sign law e Left p.left.point f.near f.final f.far)).1

    run : (y : Vec A) (p : Portal A) (ps : List (Portal A)) (h : Ahead N e p ps) → Fans K e y p ps h → LaterRounds N p ps e → Holds p ps h (funnel_at N sign e p ps)
    run y p [] h f r = opens (begin p h)
    run y p (q ∷ ps) h f r =
        let z : Vec A = choose K e Left h.0 p.right.point p.left.point in
        let fs : Fans K e z q ps h.1 = next_fans K e y p q ps h.0 h.1 f r.0 in
        widened p q ps h.0 h.1 (funnel_at N sign e q ps) fs (run z q ps h.1 fs r.1)

    taut : (s : Vec A) (p : Portal A) (ps : List (Portal A)) → Sleeve N s (p ∷ ps) e → FanBound N s (p ∷ ps) e → Taut N s (p ∷ ps) e (funnel N sign s (p ∷ ps) e)
    taut s p ps h b =
        let p₀ : Portal A = record { left = record { number = suc p.left.number; point = s }; right = p.right } in
        let f : Funnel A = funnel_at N sign e p ps in
        let g : Funnel A = settle N sign e Left s f.near f.final f.far in
        let fs : Fans K e s p ps h.1 = first_fans K e s p ps h.1 b.0 in
        let k : Keeps N Right p₀ p = (refl, pos_eq K (behind_is K p.left.point p.right.point s) h.0, λ is. absurd (omega arith)) in
        let r : Result K e s (p ∷ ps) (funnel N sign s (p ∷ ps) e) = (left_step p₀ p ps h.1 k fs f.final g.final f.near (reverse f.far) g.near (reverse g.far) (run s p ps h.1 fs b.1) (settles K sign law e Left s f.near f.final f.far)).0 in
        record { thread = r.thread; stretched = stretched_of s p ps (funnel N sign s (p ∷ ps) e) r.apart }

module _ (K : OrderedRing) where
  open K.numbers use {carrier as A₁}

  -- the theorem
  pub existence : (sign : A₁ → Sign) → Signs K.numbers sign → (s e : Vec A₁) (ps : List (Portal A₁)) → Sleeve K.numbers s ps e → FanBound K.numbers s ps e → TautString K.numbers s ps e (funnel K.numbers sign s ps e)
  existence sign law s e [] h b = of_taut K.numbers (record { thread = arrive; stretched = tt })
  existence sign law s e (p ∷ ps) h b = of_taut K.numbers (taut K e sign law s p ps h b)
