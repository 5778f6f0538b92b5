-- A path that leaves out portals is no longer (`fewer_places`): under a gauge the straight step measures no more than two steps over a place between (`no_detour`).
use Rattle.std.proofs.Common.{◌≡◌, ℕ, List, [], ◌∷◌, ◌++◌, refl, subst}
use Rattle.algebra.specs.Arithmetic.{Arithmetic, Nn}
use Rattle.algebra.specs.Plane.{Vec, less, dot}
use Rattle.algebra.proofs.RingSolver.{CommRing, ◌:+◌, ◌:-◌, ◌:=◌, E, ring}
use Rattle.algebra.proofs.OrderedRing.{OrderedRing, base, nn_eq, nn_add, le_refl}
use Rattle.algebra.proofs.PlaneSolver.{ring_v}
use Rattle.taut.specs.Sleeve.{Portal}
use Rattle.taut.specs.Lengths.{Gauge, along, place, Marks, places}

-- the first list is the second with some of its members left out
pub data PartOf {X : Type 0} : List X → List X → Type 0 where
  none : PartOf [] []
  keep : {x : X} {v w : List X} → PartOf v w → PartOf (x ∷ v) (x ∷ w)
  omit : {x : X} {v w : List X} → PartOf v w → PartOf v (x ∷ w)

module _ (K : OrderedRing) where
  abbrev N : Arithmetic
  N = K.numbers

  abbrev R : CommRing
  R = base K

  open N use {carrier as A}
  open N.ops use {add as ◌+◌, neg as -◌}

  infixl 65 ◌+◌ ◌-◌
  infix 75 -◌
  abbrev ◌-◌ : A → A → A
  a - b = a + - b

  two_steps : (x y z g : Vec A) (m n : A) → m - dot N.ops g (less N.ops y x) + (n - dot N.ops g (less N.ops z y)) ≡ m + n - dot N.ops g (less N.ops z x)
  two_steps = ring_v R 4 2 (λ x y z g m n. m :- dot E g (less E y x) :+ (n :- dot E g (less E z y)) := m :+ n :- dot E g (less E z x)) refl

  after_both : (a b c r : A) → a + b - c + (r - r) ≡ a + (b + r) - (c + r)
  after_both = ring R 4 (λ a b c r. a :+ b :- c :+ (r :- r) := a :+ (b :+ r) :- (c :+ r)) refl

  in_turn : (a b c : A) → a - b + (b - c) ≡ a - c
  in_turn = ring R 3 (λ a b c. a :- b :+ (b :- c) := a :- c) refl

  more_before : (a b m : A) → a - b ≡ m + a - (m + b)
  more_before = ring R 3 (λ a b m. a :- b := m :+ a :- (m :+ b)) refl

  module _ (fs : List (Vec A)) (measure : Vec A → A) (G : Gauge N fs measure) where
    pub no_detour : (x y z : Vec A) → Nn N (measure (less N.ops y x) + measure (less N.ops z y) - measure (less N.ops z x))
    no_detour x y z =
        let best = G (less N.ops z x) in
        let g : Vec A = best.form in
        subst (λ m. Nn N (measure (less N.ops y x) + measure (less N.ops z y) - m)) best.attained
        (nn_eq K (two_steps x y z g (measure (less N.ops y x)) (measure (less N.ops z y)))
        (nn_add K ((G (less N.ops y x)).above g best.among) ((G (less N.ops z y)).above g best.among)))

    over : (x y z : Vec A) (r : A) → Nn N (measure (less N.ops y x) + (measure (less N.ops z y) + r) - (measure (less N.ops z x) + r))
    over x y z r = nn_eq K (after_both (measure (less N.ops y x)) (measure (less N.ops z y)) (measure (less N.ops z x)) r) (nn_add K (no_detour x y z) (le_refl K r))

    -- the way over a place, and the way past it
    straight_on : (x y e : Vec A) (zs : List (Vec A)) → Nn N (measure (less N.ops y x) + along N measure y (zs ++ (e ∷ [])) - along N measure x (zs ++ (e ∷ [])))
    straight_on x y e [] = over x y e N.ops.nil
    straight_on x y e (z ∷ zs) = over x y z (along N measure z (zs ++ (e ∷ [])))

    module _ (D : ℕ) (e : Vec A) where
      abbrev way : Vec A → List (Portal A) → List ℕ → A
      way x ps js = along N measure x (places N D ps js ++ (e ∷ []))

      pub fewer_places : {qs ps : List (Portal A)} → PartOf qs ps → (js : List ℕ) → Marks N D ps js → (is : List ℕ) × Marks N D qs is × ((x : Vec A) → Nn N (way x ps js - way x qs is))
      fewer_places none [] h = ([], tt, λ x. le_refl K (way x [] []))
      fewer_places none (j ∷ js) h = absurd h
      fewer_places (keep l) [] h = absurd h
      fewer_places (keep {x = p} {v = qs} {w = ps} l) (j ∷ js) h =
          let ih = fewer_places l js h.1 in
          let y : Vec A = place N D p j in
          (j ∷ ih.0, (h.0, ih.1), λ x. nn_eq K (more_before (way y ps js) (way y qs ih.0) (measure (less N.ops y x))) (ih.2 y))
      fewer_places (omit l) [] h = absurd h
      fewer_places (omit {x = p} {v = qs} {w = ps} l) (j ∷ js) h =
          let ih = fewer_places l js h.1 in
          let y : Vec A = place N D p j in
          (ih.0, ih.1, λ x. nn_eq K (in_turn (measure (less N.ops y x) + way y ps js) (way x ps js) (way x qs ih.0)) (nn_add K (straight_on x y e (places N D ps js)) (ih.2 x)))
