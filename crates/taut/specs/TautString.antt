-- Bend          a vertex at which a string bends, and the side on which that vertex lies
-- Crosses       the line from one point to another has no left end of the portal to its right and no right end to its left
-- Turns         three points turn strictly to a side
-- aim           where a string goes first: to its first bend, or to the end point
-- portal bend   the portals and the bends, numbered from 1
-- corner        the points of a string: 0 is the start, then the bends from 1, then the end point
-- Indices       whole numbers 0 = i 0 < i 1 < .. < i m ≤ n, i (m+1) = n, by which a string of m bends is taut among n portals
-- Stretched     a string without a bend, through a portal at least, ends elsewhere than it starts
-- TautString    the bends are a taut string from the start through the portals to the end point
use Rattle.std.specs.Prelude.{◌≡◌, ℕ, suc, ◌<◌, ◌≤◌, List, [], ◌∷◌, length, slice_index_or}
use Rattle.algebra.specs.Arithmetic.{Arithmetic, Nn}
use Rattle.algebra.specs.Plane.{Vec, ◌⟶◌ as ◌⇢◌}
use Rattle.taut.specs.declared.Side.{Side}
use Rattle.taut.specs.declared.Side.TheVariants.{Left}
use Rattle.taut.specs.Sleeve.{Vertex, Portal, end, veer}

pub record Bend (A : Type 0) : Type 0 where
  pub side : Side
  pub vertex : Vertex A

module _ (N : Arithmetic) where
  open N use {carrier as A, Pos}

  infix 73 ◌⟶◌
  abbrev ◌⟶◌ : Vec A → Vec A → Vec A
  v ⟶ w = ◌⇢◌ N v w

  abbrev pub Crosses : Vec A → Vec A → Portal A → Type 0
  Crosses v w p = (t : Side) → Nn N (veer N t (v ⟶ w) (v ⟶ (end t p).point))

  abbrev pub Turns : Side → Vec A → Vec A → Vec A → Type 0
  Turns t u v w = Pos (veer N t (u ⟶ v) (v ⟶ w))

  abbrev pub aim : Vec A → List (Bend A) → Vec A
  aim e [] = e
  aim e (b ∷ bs) = b.vertex.point

  -- what the numbering gives where there is nothing
  abbrev pub nowhere : Vertex A
  nowhere = record { number = 0; point = record { x = N.ops.nil; y = N.ops.nil } }

  abbrev pub portal : List (Portal A) → ℕ → Portal A
  portal ps d = let none : Portal A = record { left = nowhere; right = nowhere } in slice_index_or (none ∷ ps) d none

  abbrev pub bend : List (Bend A) → ℕ → Bend A
  bend bs k = let none : Bend A = record { side = Left; vertex = nowhere } in slice_index_or (none ∷ bs) k none

  abbrev pub corners : List (Bend A) → List (Vec A)
  corners [] = []
  corners (b ∷ bs) = b.vertex.point ∷ corners bs

  abbrev pub corner : Vec A → List (Bend A) → Vec A → ℕ → Vec A
  corner s bs e k = slice_index_or (s ∷ corners bs) k e

  pub record Indices (s : Vec A) (ps : List (Portal A)) (e : Vec A) (bs : List (Bend A)) (i : ℕ → ℕ) : Type 0 where
    pub begins : i 0 ≡ 0
    pub rises : (k : ℕ) → k < length bs → i k < i (suc k)
    pub fits : i (length bs) ≤ length ps
    pub closes : i (suc (length bs)) ≡ length ps
    -- bend k is the end of portal i k on its side
    pub holds : (k : ℕ) → k < length bs → end (bend bs (suc k)).side (portal ps (i (suc k))) ≡ (bend bs (suc k)).vertex
    -- every portal after i k up to i (k+1) is crossed by the piece from corner k to corner k+1
    pub crossed : (k : ℕ) → k ≤ length bs → (d : ℕ) → i k < d → d ≤ i (suc k) → Crosses (corner s bs e k) (corner s bs e (suc k)) (portal ps d)
    -- the string turns strictly to the side of each bend
    pub turned : (k : ℕ) → k < length bs → Turns (bend bs (suc k)).side (corner s bs e k) (corner s bs e (suc k)) (corner s bs e (suc (suc k)))

  abbrev pub Stretched : Vec A → List (Portal A) → List (Bend A) → Vec A → Type 0
  Stretched s [] bs e = Unit {0}
  Stretched s (p ∷ ps) [] e = ¬ (s ≡ e)
  Stretched s (p ∷ ps) (b ∷ bs) e = Unit {0}

  pub record TautString (s : Vec A) (ps : List (Portal A)) (e : Vec A) (bs : List (Bend A)) : Type 0 where
    pub indices : (i : ℕ → ℕ) × Indices s ps e bs i
    pub stretched : Stretched s ps bs e
