-- A linear form is a pair (f, h); its value at a step (dx, dy) is f·dx + h·dy.
-- Among     a form stands in a list
-- Largest   a number is the largest value of the forms at a step: one of them has it, and none has more
-- Gauge     a measure of steps that is everywhere the largest value of the forms of a list; so the list is not empty
-- along     what the way from a point over others measures, step by step
-- whole     a whole number, as one of the numbers
-- times_over   a point, a whole number of times
-- place     D times the place on a portal that is j parts of D from its left end to its right end: (D − j) · left + j · right
-- magnified a portal, D times over
-- Marks     a whole number from 0 to D for each portal
-- places    the places that they mark, D times over
use Rattle.std.specs.Prelude.{◌≡◌, ℕ, zero, suc, ◌-◌, ◌≤◌, ◌⊎◌, List, [], ◌∷◌}
use Rattle.algebra.specs.Arithmetic.{Arithmetic, Nn}
use Rattle.algebra.specs.Plane.{Vec, plus, less, times, dot}
use Rattle.taut.specs.Sleeve.{Portal}

module _ (N : Arithmetic) where
  open N use {carrier as A}

  abbrev pub Among : Vec A → List (Vec A) → Type 0
  Among f [] = ⊥
  Among f (g ∷ fs) = (f ≡ g) ⊎ Among f fs

  pub record Largest (fs : List (Vec A)) (d : Vec A) (m : A) : Type 0 where
    pub form : Vec A
    pub among : Among form fs
    pub attained : dot N.ops form d ≡ m
    pub above : (f : Vec A) → Among f fs → Nn N (N.ops.add m (N.ops.neg (dot N.ops f d)))

  abbrev pub Gauge : List (Vec A) → (Vec A → A) → Type 0
  Gauge fs measure = (d : Vec A) → Largest fs d (measure d)

  abbrev pub along : (Vec A → A) → Vec A → List (Vec A) → A
  along measure x [] = N.ops.nil
  along measure x (z ∷ zs) = N.ops.add (measure (less N.ops z x)) (along measure z zs)

  abbrev pub whole : ℕ → A
  whole zero = N.ops.nil
  whole (suc n) = N.ops.add N.ops.one (whole n)

  abbrev pub times_over : ℕ → Vec A → Vec A
  times_over D v = times N.ops (whole D) v

  abbrev pub place : ℕ → Portal A → ℕ → Vec A
  place D p j = plus N.ops (times_over (D - j) p.left.point) (times_over j p.right.point)

  abbrev pub magnified : ℕ → Portal A → Portal A
  magnified D p = record { left = record { number = p.left.number; point = times_over D p.left.point }; right = record { number = p.right.number; point = times_over D p.right.point } }

  abbrev pub Marks : ℕ → List (Portal A) → List ℕ → Type 0
  Marks D [] [] = Unit {0}
  Marks D [] (j ∷ js) = ⊥
  Marks D (p ∷ ps) [] = ⊥
  Marks D (p ∷ ps) (j ∷ js) = (j ≤ D) × Marks D ps js

  abbrev pub places : ℕ → List (Portal A) → List ℕ → List (Vec A)
  places D [] js = []
  places D (p ∷ ps) [] = []
  places D (p ∷ ps) (j ∷ js) = place D p j ∷ places D ps js
