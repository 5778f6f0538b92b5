-- Two walks that part in a triangle, and whose strings have the same bends and the same end.
-- last_portal   the last of a row of portals
-- Fork          both keep an end of the last common portal, the first the left and the second the right one, and both have the same new vertex
-- OneFan        the rays of both runs round that vertex make one fan
-- EqualBends    such walks do not exist: neither two that go on, nor one that ends in the triangle where the other goes on; at the numbers p + q√2
use Rattle.std.specs.Prelude.{◌≡◌, List, [], ◌∷◌, ◌++◌, reverse}
use Rattle.algebra.specs.Arithmetic.{Arithmetic}
use Rattle.algebra.specs.Number.{Number, Positive, quadratics}
use Rattle.algebra.specs.Plane.{Vec, ◌⟶◌ as ◌⇢◌}
use Rattle.taut.specs.declared.Side.TheVariants.{Left, Right}
use Rattle.taut.specs.Sleeve.{Portal, veer, Behind, Keeps, Sleeve}
use Rattle.taut.specs.Fan.{Fan, Run}
use Rattle.taut.specs.TautString.{Bend, TautString}

abbrev pub last_portal : {A : Type 0} → Portal A → List (Portal A) → Portal A
last_portal p [] = p
last_portal p (q ∷ ps) = last_portal q ps

module _ (N : Arithmetic) where
  open N use {carrier as A}

  infix 73 ◌⟶◌
  abbrev ◌⟶◌ : Vec A → Vec A → Vec A
  v ⟶ w = ◌⇢◌ N v w

  pub record Fork (p q₁ q₂ : Portal A) : Type 0 where
    pub first : Keeps N Left p q₁
    pub second : Keeps N Right p q₂
    pub shared : q₁.right ≡ q₂.left

  abbrev pub OneFan : Vec A → Portal A → List (Portal A) → Portal A → List (Portal A) → Type 0
  OneFan e q₁ ps₁ q₂ ps₂ = (rs₁ rs₂ : List (Vec A)) → Run N Right e q₁ ps₁ rs₁ → Run N Left e q₂ ps₂ rs₂ → Fan N Left (reverse ((q₁.right.point ⟶ q₁.left.point) ∷ rs₁) ++ ((q₂.left.point ⟶ q₂.right.point) ∷ rs₂))

abbrev pub Strung : Vec Number → List (Portal Number) → Vec Number → List (Bend Number) → Type 0
Strung s ps e bs = Sleeve quadratics s ps e × TautString quadratics s ps e bs

pub record EqualBends : Type 0 where
  -- after some common portals, or in the start's triangle
  pub fork : (s e : Vec Number) (bs : List (Bend Number)) (p : Portal Number) (ps : List (Portal Number)) (q₁ q₂ : Portal Number) (ps₁ ps₂ : List (Portal Number))
      → Fork quadratics (last_portal p ps) q₁ q₂ → OneFan quadratics e q₁ ps₁ q₂ ps₂ → Strung s (p ∷ (ps ++ (q₁ ∷ ps₁))) e bs
      → Strung s (p ∷ (ps ++ (q₂ ∷ ps₂))) e bs → ⊥
  pub fork_at_start : (s e : Vec Number) (bs : List (Bend Number)) (q₁ q₂ : Portal Number) (ps₁ ps₂ : List (Portal Number)) → q₁.right ≡ q₂.left
      → Positive (veer quadratics Left (◌⟶◌ quadratics q₁.right.point q₁.left.point) (◌⟶◌ quadratics q₁.right.point q₂.right.point))
      → OneFan quadratics e q₁ ps₁ q₂ ps₂ → Strung s (q₁ ∷ ps₁) e bs → Strung s (q₂ ∷ ps₂) e bs → ⊥
  pub stop : (s e : Vec Number) (bs : List (Bend Number)) (p : Portal Number) (ps : List (Portal Number)) (q : Portal Number) (qs : List (Portal Number))
      → Behind quadratics q e → Strung s (p ∷ ps) e bs → Strung s (p ∷ (ps ++ (q ∷ qs))) e bs → ⊥
  pub stop_at_start : (s e : Vec Number) (q : Portal Number) (qs : List (Portal Number)) → Behind quadratics q e → Strung s (q ∷ qs) e [] → ⊥
