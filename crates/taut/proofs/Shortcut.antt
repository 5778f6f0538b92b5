-- A path that leaves out one of its places, other than the last, measures no more: the largest value of linear forms is subadditive.
-- So a walk with spurs has no shorter paths than the walk without them.
use Rattle.std.proofs.Common.{◌≡◌, List, [], ◌∷◌, ◌++◌, refl, subst}
use Rattle.algebra.specs.Arithmetic.{Arithmetic, Nn}
use Rattle.algebra.specs.Plane.{Vec, less, dot}
use Rattle.algebra.proofs.RingSolver.{CommRing, ◌:+◌, ◌:-◌, :-◌, ◌:=◌, E, ring}
use Rattle.algebra.proofs.OrderedRing.{OrderedRing, base, nn_eq, nn_add}
use Rattle.algebra.proofs.PlaneSolver.{ring_v}
use Rattle.taut.specs.Lengths.{Gauge, along}

module _ (K : OrderedRing) where
  abbrev N : Arithmetic
  N = K.numbers

  abbrev R : CommRing
  R = base K

  open N use {carrier as A}
  open N.ops use {add as ◌+◌, neg as -◌}

  infixl 65 ◌+◌ ◌-◌
  infix 75 -◌
  abbrev ◌-◌ : A → A → A
  a - b = a + - b

  abbrev step : Vec A → Vec A → Vec A
  step x y = less N.ops y x

  abbrev at : Vec A → Vec A → A
  at f v = dot N.ops f v

  detour : (x y z f : Vec A) (m n : A) → m - at f (step x y) + (n - at f (step y z)) ≡ m + n - at f (step x z)
  detour = ring_v R 4 2 (λ x y z f m n. m :- dot E f (less E y x) :+ (n :- dot E f (less E z y)) := m :+ n :- dot E f (less E z x)) refl

  module _ (fs : List (Vec A)) (measure : Vec A → A) (G : Gauge N fs measure) where
    triangle : (x y z : Vec A) → Nn N (measure (step x y) + measure (step y z) - measure (step x z))
    triangle x y z =
        let best = G (step x z) in
        subst (λ m. Nn N (measure (step x y) + measure (step y z) - m)) best.attained
        (nn_eq K (detour x y z best.form (measure (step x y)) (measure (step y z))) (nn_add K ((G (step x y)).above best.form best.among) ((G (step y z)).above best.form best.among)))

    pub shortcut : (x : Vec A) (ys : List (Vec A)) (z y : Vec A) (zs : List (Vec A)) → Nn N (along N measure x (ys ++ (z ∷ y ∷ zs)) - along N measure x (ys ++ (y ∷ zs)))
    shortcut x [] z y zs = nn_eq K (ring R 4 (λ a b c t. a :+ b :- c := a :+ (b :+ t) :- (c :+ t)) refl (measure (step x z)) (measure (step z y)) (measure (step x y)) (along N measure y zs)) (triangle x z y)
    shortcut x (p ∷ ys) z y zs = nn_eq K (ring R 3 (λ a b c. b :- c := a :+ b :- (a :+ c)) refl (measure (step x p)) (along N measure p (ys ++ (z ∷ y ∷ zs))) (along N measure p (ys ++ (y ∷ zs)))) (shortcut p ys z y zs)
