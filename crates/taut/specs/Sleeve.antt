-- other      the other side
-- Vertex     a vertex: its number and its point
-- Portal     an edge that is walked across, by its left and its right end
-- end        the end of a portal on a side
-- veer       positive where the second step points to that side of the first, zero where it lies along its line
-- Front      a point lies strictly in front of a portal: left end, right end and the point turn left
-- OnLine     a point lies on the line of a portal
-- Behind     a point lies strictly behind a portal
-- Keeps      the second portal keeps the end of the first on that side; its other end is another vertex, strictly in front of the first
-- Link       the second portal follows on the first: it keeps one of its ends
-- Ahead      each portal follows on the one before, and the end point lies strictly in front of the last
-- Sleeve     .. and the start lies strictly behind the first
-- The numbers may be of any kind that has operations and an order: nothing is assumed of them here.
use Rattle.std.specs.Prelude.{◌≡◌, ℕ, ◌⊎◌, List, [], ◌∷◌}
use Rattle.algebra.specs.Arithmetic.{Arithmetic}
use Rattle.algebra.specs.Plane.{Vec, ◌⊗◌, ◌⟶◌ as ◌⇢◌}
use Rattle.taut.specs.declared.Side.{Side}
use Rattle.taut.specs.declared.Side.TheVariants.{Left, Right}

abbrev pub other : Side → Side
other Left = Right
other Right = Left

pub record Vertex (A : Type 0) : Type 0 where
  pub number : ℕ
  pub point : Vec A

pub record Portal (A : Type 0) : Type 0 where
  pub left : Vertex A
  pub right : Vertex A

abbrev pub end : {A : Type 0} → Side → Portal A → Vertex A
end Left p = p.left
end Right p = p.right

module _ (N : Arithmetic) where
  open N use {carrier as A, Pos}

  infix 73 ◌⟶◌
  abbrev ◌⟶◌ : Vec A → Vec A → Vec A
  v ⟶ w = ◌⇢◌ N v w

  abbrev pub veer : Side → Vec A → Vec A → A
  veer Left a b = ◌⊗◌ N a b
  veer Right a b = ◌⊗◌ N b a

  abbrev pub Front : Portal A → Vec A → Type 0
  Front p x = Pos (veer Left (p.left.point ⟶ p.right.point) (p.left.point ⟶ x))

  abbrev pub OnLine : Portal A → Vec A → Type 0
  OnLine p x = veer Left (p.left.point ⟶ p.right.point) (p.left.point ⟶ x) ≡ N.ops.nil

  abbrev pub Behind : Portal A → Vec A → Type 0
  Behind p x = Pos (veer Right (p.left.point ⟶ p.right.point) (p.left.point ⟶ x))

  abbrev pub Keeps : Side → Portal A → Portal A → Type 0
  Keeps t p q = (end t q ≡ end t p) × Front p (end (other t) q).point × (¬ ((end (other t) q).number ≡ (end (other t) p).number))

  abbrev pub Link : Portal A → Portal A → Type 0
  Link p q = Keeps Left p q ⊎ Keeps Right p q

  abbrev pub Ahead : Vec A → Portal A → List (Portal A) → Type 0
  Ahead e p [] = Front p e
  Ahead e p (q ∷ ps) = Link p q × Ahead e q ps

  abbrev pub Sleeve : Vec A → List (Portal A) → Vec A → Type 0
  Sleeve s [] e = Unit {0}
  Sleeve s (p ∷ ps) e = Behind p s × Ahead e p ps
