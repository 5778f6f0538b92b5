-- The funnel whose apex is an end of the present portal, with the portals that share it. A new end sees the apex (`round_arm`), turns there strictly to its side (`turns_strictly`, the one use of the fan bound),
-- and either the apex stays an end (`stay`) or it is left behind (`leave`).
use Rattle.std.proofs.Common.{◌≡◌, List, [], ◌∷◌, ◌++◌, sym, ap, ◌∙◌, subst}
use Rattle.algebra.specs.Arithmetic.{Arithmetic, Nn}
use Rattle.algebra.specs.Plane.{Vec, ◌⟶◌ as ◌⇢◌}
use Rattle.algebra.proofs.RingSolver.{CommRing}
use Rattle.algebra.proofs.OrderedRing.{OrderedRing, base, pos_eq, nn_eq, nn_pos, nn_cancel, signs}
use Rattle.taut.specs.declared.Side.{Side}
use Rattle.taut.specs.Sleeve.{other, Vertex, Portal, end, veer, Link, Ahead}
use Rattle.taut.specs.TautString.{Bend, Crosses, Turns, aim}
use Rattle.taut.specs.Fan.{Clear, Within}
use Rattle.taut.proofs.Veer.{swap, in_order', cyc, from_apex, to_apex, about}
use Rattle.taut.proofs.Portals.{ends_zero, starts_zero, crosses}
use Rattle.taut.proofs.Thread.{Thread}
use Rattle.taut.proofs.FanLemma.{fan}
use Rattle.taut.proofs.Runs.{rays, sweep}
use Rattle.taut.proofs.Chains.{to_head°, Stem, Meets, Arm, stop, over, thread_of, Wing}
use Rattle.taut.proofs.Wedge.{Wedge, open'}
use Rattle.taut.proofs.ApexMoves.{Open}

module _ (K : OrderedRing) (e : Vec K.numbers.carrier) where
  abbrev N : Arithmetic
  N = K.numbers

  abbrev R : CommRing
  R = base K

  open N use {carrier as A, Pos}
  open N.ops use {nil as 𝟘, add as ◌+◌, mul as ◌*◌, neg as -◌}

  infixl 65 ◌+◌
  infixl 70 ◌*◌
  infix 75 -◌
  infix 73 ◌⟶◌
  abbrev ◌⟶◌ : Vec A → Vec A → Vec A
  v ⟶ w = ◌⇢◌ N v w

  -- ---- portals round the apex, whose ends across the way on from it leaves behind
  module _ (s : Side) (m : Vertex A) (bs : List (Bend A)) where
    abbrev v : Vec A
    v = m.point

    abbrev o : Vec A
    o = v ⟶ aim N e bs

    abbrev fb : List (Bend A)
    fb = record { side = s; vertex = m } ∷ bs

    abbrev pub Beside : Portal A → Type 0
    Beside q = (end s q ≡ m) × Nn N (veer N s ((end (other s) q).point ⟶ v) o)

    abbrev pub AllBeside : List (Portal A) → Type 0
    AllBeside [] = Unit {0}
    AllBeside (q ∷ qs) = Beside q × AllBeside qs

    abbrev pub FirstBeside : List (Portal A) → Type 0
    FirstBeside [] = Unit {0}
    FirstBeside (q ∷ qs) = Beside q

    module _ (r y : Vec A) (yr : Pos (veer N s (y ⟶ v) (r ⟶ v))) (ro : Pos (veer N s (r ⟶ v) o)) (turns_strictly : Pos (veer N s (y ⟶ v) o)) where
      crosses_round : (q : Portal A) → Beside q → Crosses N r v q → Crosses N y v q
      crosses_round q h c =
          let k : Vec A = (end (other s) q).point in
          let rk : Nn N (veer N s (r ⟶ v) (k ⟶ v)) = nn_eq K (to_head° K s r v k) (c (other s)) in
          let ko : Nn N (veer N s (k ⟶ v) o) = h.1 in
          crosses K s y v q (ends_zero K s y v (end s q).point (ap (λ x. x.point) h.0)) (nn_eq K (sym (to_head° K s y v k)) (nn_cancel K ro (nn_eq K (in_order' K s o (y ⟶ v) (r ⟶ v) (k ⟶ v)) (search signs))))

      meets_round : (qs : List (Portal A)) → FirstBeside qs → Meets K e fb qs r → Meets K e fb qs y
      meets_round [] h c = tt
      meets_round (q ∷ qs) h c = crosses_round q h c

      arm_round : (rest : List (Portal A)) (x t : Side) {qs : List (Portal A)} → FirstBeside rest → AllBeside qs → Arm K e fb rest x r [] qs → Arm K e fb rest t y [] qs
      arm_round rest x t f h (stop c) = stop (meets_round rest f c)
      arm_round rest x t f h (over {q = q} c a) = over (crosses_round q h.0 c) (arm_round rest x t f h.1 a)

  pub record Flush (s : Side) (p : Portal A) (ps : List (Portal A)) (h : Ahead N e p ps) (m : Vertex A) (bs : List (Bend A)) : Type 0 where
    pub pre : List (Portal A)
    pub rest : List (Portal A)
    pub stem : Stem K e (record { side = s; vertex = m } ∷ bs) rest
    pub is : end s p ≡ m
    pub all : p ∷ ps ≡ pre ++ rest
    pub rounds : AllBeside s m bs pre
    pub first_round : FirstBeside s m bs rest
    pub arm : Arm K e (record { side = s; vertex = m } ∷ bs) rest (other s) (end (other s) p).point [] pre
    pub turns : Turns N s (end (other s) p).point m.point (aim N e bs)
    pub in_run : Within N s (m.point ⟶ aim N e bs) (m.point ⟶ (end (other s) p).point) (rays K e s m.point p ps h)

  -- a string without bends does not end where it starts
  abbrev pub Apart : Vec A → List (Bend A) → Type 0
  Apart y [] = ¬ (y ≡ e)
  Apart y (b ∷ bs) = Unit {0}

  -- a string from y
  pub record Result (y : Vec A) (ps : List (Portal A)) (bs : List (Bend A)) : Type 0 where
    pub thread : Thread N e y ps bs
    pub apart : Apart y bs

  -- ---- a new vertex y before p, with the apex an end of p
  module _ (s : Side) (p : Portal A) (ps : List (Portal A)) (h : Ahead N e p ps) (m : Vertex A) (bs : List (Bend A)) (f : Flush s p ps h m bs) (y : Vec A)
      (fr : Pos (veer N s (y ⟶ (end (other s) p).point) (y ⟶ (end s p).point))) (cl : Clear N s ((end s p).point ⟶ y) ((end s p).point ⟶ (end (other s) p).point) (rays K e s (end s p).point p ps h)) where
    abbrev r : Vec A
    r = (end (other s) p).point

    abbrev apex : Vec A
    apex = m.point

    fr' : Pos (veer N s (y ⟶ r) (y ⟶ apex))
    fr' = subst (λ k. Pos (veer N s (y ⟶ r) (y ⟶ k.point))) f.is fr

    yr : Pos (veer N s (y ⟶ apex) (r ⟶ apex))
    yr = pos_eq K (to_apex K s y r apex) fr'

    -- the one use of the fan bound
    turns_strictly : Turns N s y apex (aim N e (bs))
    turns_strictly = pos_eq K (sym (about K s y apex (apex ⟶ aim N e (bs)))) (fan K s (apex ⟶ y) (apex ⟶ aim N e (bs)) (apex ⟶ r) (rays K e s apex p ps h)
        (pos_eq K (from_apex K s y r apex) fr') (sweep K e s apex p ps h (ap (λ k. k.point) f.is))
        (subst (λ k. Clear N s (k.point ⟶ y) (k.point ⟶ r) (rays K e s k.point p ps h)) f.is cl) f.in_run (pos_eq K (about K s r apex (apex ⟶ aim N e (bs))) f.turns))

    round_arm : (t : Side) → Arm K e (record { side = s; vertex = m } ∷ bs) f.rest t y [] f.pre
    round_arm t = arm_round s (m) (bs) r y yr f.turns turns_strictly f.rest (other s) t f.first_round f.rounds f.arm

    pub flush_thread : Result y (p ∷ ps) (record { side = s; vertex = m } ∷ bs)
    flush_thread = record { thread = subst (λ qs. Thread N e y qs (record { side = s; vertex = m } ∷ bs)) (sym f.all) (thread_of K e (record { side = s; vertex = m } ∷ bs) f.rest s f.stem (round_arm s) turns_strictly); apart = tt }

  -- y is a new end across: the apex stays an end
  pub stay : (s : Side) (p₀ p : Portal A) (ps : List (Portal A)) (h : Ahead N e p ps) (l : Link N p₀ p) (m : Vertex A) (bs : List (Bend A)) (f : Flush s p ps h m bs) → end s p ≡ end s p₀
      → (fr : Pos (veer N s ((end (other s) p₀).point ⟶ (end (other s) p).point) ((end (other s) p₀).point ⟶ (end s p).point))) (cl : Clear N s ((end s p).point ⟶ (end (other s) p₀).point) ((end s p).point ⟶ (end (other s) p).point) (rays K e s (end s p).point p ps h))
      → Within N s (m.point ⟶ aim N e (bs)) (m.point ⟶ (end (other s) p₀).point) (rays K e s m.point p₀ (p ∷ ps) (l, h)) → Flush s p₀ (p ∷ ps) (l, h) m bs
  stay s p₀ p ps h l m bs f kept fr cl w =
      let y : Vec A = (end (other s) p₀).point in
      record {
        pre = p₀ ∷ f.pre;
        rest = f.rest;
        stem = f.stem;
        is = sym kept ∙ f.is;
        all = ap (λ qs. p₀ ∷ qs) f.all;
        rounds = ((sym kept ∙ f.is, nn_pos K (turns_strictly s p ps h m bs f y fr cl)), f.rounds);
        first_round = f.first_round;
        arm = over (crosses K s y m.point p₀ (ends_zero K s y m.point (end s p₀).point (ap (λ k. k.point) (sym kept ∙ f.is))) (starts_zero K (other s) y m.point)) (round_arm s p ps h m bs f y fr cl (other s));
        turns = turns_strictly s p ps h m bs f y fr cl;
        in_run = w;
      }

  -- y is a new end on the apex's side: the apex is left behind
  pub leave : (s : Side) (p₀ p : Portal A) (ps : List (Portal A)) (h : Ahead N e p ps) (m : Vertex A) (bs : List (Bend A)) (f : Flush s p ps h m bs) → end (other s) p ≡ end (other s) p₀
      → (fr : Pos (veer N s ((end s p₀).point ⟶ (end (other s) p).point) ((end s p₀).point ⟶ (end s p).point))) (cl : Clear N s ((end s p).point ⟶ (end s p₀).point) ((end s p).point ⟶ (end (other s) p).point) (rays K e s (end s p).point p ps h))
      → Open K e s p₀ (p ∷ ps) (record { side = s; vertex = m } ∷ bs) [] []
  leave s p₀ p ps h m bs f kept fr cl =
      let y : Vec A = (end s p₀).point in
      let r₁ : Vec A = (end (other s) p).point in
      let v₁ : Vec A = m.point in
      let fr₁ : Pos (veer N s (y ⟶ r₁) (y ⟶ v₁)) = fr' s p ps h m bs f y fr cl in
      let at : r₁ ≡ (end (other s) p₀).point = ap (λ k. k.point) kept in
      record {
        rest = f.rest;
        front = f.pre;
        stem = f.stem;
        all = f.all;
        two = record {
          near = record { arm = round_arm s p ps h m bs f y fr cl s; passes = crosses K s y v₁ p₀ (starts_zero K s y v₁) (nn_eq K (sym (swap K s (y ⟶ v₁) (y ⟶ (end (other s) p₀).point))) (nn_pos K (subst (λ x. Pos (veer N s (y ⟶ x) (y ⟶ v₁))) at fr₁))); convex = turns_strictly s p ps h m bs f y fr cl };
          far = subst (λ x. record { a : Arm K e (record { side = s; vertex = m } ∷ bs) f.rest (other s) x [] f.pre; c : Turns N s x v₁ (aim N e (bs)) } → Wing K e (record { side = s; vertex = m } ∷ bs) f.rest (other s) p₀ f.pre []) (sym at)
              (λ g. record { arm = g.a; passes = crosses K s (end (other s) p₀).point v₁ p₀ (nn_pos K (pos_eq K (cyc K s y (end (other s) p₀).point v₁) (subst (λ x. Pos (veer N s (y ⟶ x) (y ⟶ v₁))) at fr₁))) (starts_zero K (other s) (end (other s) p₀).point v₁); convex = g.c })
              (record { a = f.arm; c = f.turns });
          gap = subst (λ x. Wedge K s (y ⟶ v₁) (x ⟶ v₁)) at (open' (yr s p ps h m bs f y fr cl));
        };
      }
