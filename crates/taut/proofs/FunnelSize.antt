-- The funnel finds at most as many bends as there are portals, for every row of portals, a sleeve or not.
-- n portals leave at most n + 1 vertices in a funnel, and at most n where one of its chains is empty (`Few`); each new end drops a vertex before it empties the near chain.
use Rattle.std.proofs.Common.{◌≡◌, ℕ, suc, ◌+◌, ◌≤◌, Bool, true, false, cond, ◌⊎◌, List, [], ◌∷◌, ◌++◌, length, refl, inl, inr, arith}
use Rattle.std.proofs.lemmas.List.{length-append, length-reverse}
use Rattle.algebra.specs.Arithmetic.{Arithmetic}
use Rattle.algebra.specs.Plane.{Vec}
use Rattle.algebra.specs.declared.Sign.{Sign}
use Rattle.taut.specs.declared.Side.{Side}
use Rattle.taut.specs.declared.Side.TheVariants.{Left, Right}
use Rattle.taut.specs.Sleeve.{other, Vertex, Portal}
use Rattle.taut.specs.TautString.{Bend, aim}
use Rattle.taut.specs.Funnel.{Funnel, bears, next, advance, settle, push, flip, gain, widen, funnel_at, bends, funnel}

-- what holds of both holds of either
pub of_either : {X : Type 0} (Q : X → Type 0) (b : Bool) (x y : X) → Q x → Q y → Q (cond b x y)
of_either Q true x y p q = p
of_either Q false x y p q = q

module _ {A : Type 0} where
  pub record Few (n : ℕ) (f : Funnel A) : Type 0 where
    pub all : length f.near + length f.final + length f.far ≤ suc n
    pub by_near : length f.near + length f.final + length f.far ≤ n + length f.near
    pub by_far : length f.near + length f.final + length f.far ≤ n + length f.far

  -- a new near end leaves the far chain, or moves the apex and nothing else
  abbrev Leaves : ℕ → ℕ → ℕ → Funnel A → Type 0
  Leaves near final far g =
      ((length g.far ≡ far) × (length g.near + length g.final ≤ near + final) × (1 ≤ length g.near))
      ⊎ ((length g.near ≡ 0) × (length g.final + length g.far ≡ final + far))

  gained : (n : ℕ) (v : Vertex A) (f g : Funnel A) → Few n f → Leaves (length f.near) (length f.final) (length f.far) g → Few (suc n) (push v g)
  gained n v f g few (inl (same, fewer, some)) =
      record { all = omega (arith, few.all); by_near = omega (arith, few.all); by_far = omega (arith, few.by_far) }
  gained n v f g few (inr (none, same)) =
      record { all = omega (arith, few.by_near); by_near = omega (arith, few.by_near); by_far = omega (arith, few.by_near) }

  one_dropped : (near final far : ℕ) (g : Funnel A) → Leaves near final far g → Leaves (suc near) final far g
  one_dropped near final far g (inl (same, fewer, some)) = inl (same, omega arith, some)
  one_dropped near final far g (inr moved) = inr moved

  flipped : (n : ℕ) (f : Funnel A) → Few n f → Few n (flip f)
  flipped n f few =
      let near = length-reverse f.near in
      let far = length-reverse f.far in
      record { all = omega (arith, few.all); by_near = omega (arith, few.by_far); by_far = omega (arith, few.by_near) }

  length_bends : (t : Side) (cs : List (Vertex A)) → length (bends t cs) ≡ length cs
  length_bends t [] = refl
  length_bends t (c ∷ cs) = omega (arith, length_bends t cs)

  left_few : (n : ℕ) (f g : Funnel A) → Few n f → Leaves (length f.near) (length f.final) (length f.far) g → length (bends Left g.near ++ g.final) ≤ n
  left_few n f g few (inl (same, fewer, some)) = omega (arith, few.by_far, length-append (bends Left g.near) g.final, length_bends Left g.near)
  left_few n f g few (inr (none, same)) = omega (arith, few.by_near, length-append (bends Left g.near) g.final, length_bends Left g.near)

module _ (N : Arithmetic) (sign : N.carrier → Sign) where
  open N use {carrier as A}

  module _ (e : Vec A) where
    advanced : (t : Side) (y : Vec A) (fb : List (Bend A)) (zs : List (Vertex A))
        → (length (advance N sign e t y fb zs).near ≡ 0) × (length (advance N sign e t y fb zs).final + length (advance N sign e t y fb zs).far ≡ length fb + length zs)
    advanced t y fb [] = (refl, refl)
    advanced t y fb (z ∷ zs) =
        let moved = advanced t y (record { side = other t; vertex = z } ∷ fb) zs in
        of_either (λ (g : Funnel A). (length g.near ≡ 0) × (length g.final + length g.far ≡ length fb + suc (length zs))) (bears N sign (other t) y z.point (aim N e fb)) _ _ (moved.0, omega (arith, moved.1)) (refl, refl)

    settles : (t : Side) (y : Vec A) (cs : List (Vertex A)) (fb : List (Bend A)) (zs : List (Vertex A)) → Leaves (length cs) (length fb) (length zs) (settle N sign e t y cs fb zs)
    settles t y [] fb zs = inr (advanced t y fb zs)
    settles t y (c ∷ cs) fb zs =
        of_either (Leaves (suc (length cs)) (length fb) (length zs)) (bears N sign t y c.point (next N e cs fb)) _ _ (inl (refl, omega arith, omega arith))
        (one_dropped (length cs) (length fb) (length zs) _ (settles t y cs fb zs))

    gain_few : (t : Side) (v : Vertex A) (n : ℕ) (f : Funnel A) → Few n f → Few (suc n) (gain N sign e t v f)
    gain_few Left v n f few = gained n v f _ few (settles Left v.point f.near f.final f.far)
    gain_few Right v n f few = flipped (suc n) _ (gained n v (flip f) _ (flipped n f few) (settles Right v.point (flip f).near f.final (flip f).far))

    widen_few : (p q : Portal A) (n : ℕ) (f : Funnel A) → Few n f → Few (suc n) (widen N sign e p q f)
    widen_few p q n f few = of_either (Few (suc n)) _ _ _ (gain_few Right p.right n f few) (gain_few Left p.left n f few)

    funnel_at_few : (p : Portal A) (ps : List (Portal A)) → Few (suc (length ps)) (funnel_at N sign e p ps)
    funnel_at_few p [] = record { all = omega arith; by_near = omega arith; by_far = omega arith }
    funnel_at_few p (q ∷ ps) = widen_few p q (suc (length ps)) (funnel_at N sign e q ps) (funnel_at_few q ps)

  pub funnel_few : (s : Vec A) (ps : List (Portal A)) (e : Vec A) → length (funnel N sign s ps e) ≤ length ps
  funnel_few s [] e = omega arith
  funnel_few s (p ∷ ps) e =
      let f = funnel_at N sign e p ps in
      left_few (suc (length ps)) f _ (funnel_at_few e p ps) (settles e Left s f.near f.final f.far)
