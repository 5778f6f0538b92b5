-- Strings on a sheet with one hole: a square of three by three cells of pitch 10, without the middle cell.
-- at_whole       the point with whole coordinates
-- corner_of      vertex n of the sheet, at (10 (n mod 4), 10 (n div 4))
-- across         the portal between two vertices of the sheet, left end first
-- bent           a bend at a vertex of the sheet
-- string         what the funnel finds from the start through these portals
-- SheetStrings   the bends that the funnel finds for four walks, each from the start (6, 2)
use Rattle.std.specs.Prelude.{◌≡◌, ℕ, ◌*◌, ◌/◌, ◌%◌, List, [], ◌∷◌, pos}
use Rattle.algebra.specs.Number.{Number, number, sign, quadratics}
use Rattle.algebra.specs.Plane.{Vec}
use Rattle.taut.specs.declared.Side.{Side}
use Rattle.taut.specs.declared.Side.TheVariants.{Left, Right}
use Rattle.taut.specs.Sleeve.{Vertex, Portal}
use Rattle.taut.specs.TautString.{Bend}
use Rattle.taut.specs.Funnel.{funnel}

abbrev pub at_whole : ℕ → ℕ → Vec Number
at_whole x y = record { x = number (pos x) (pos 0); y = number (pos y) (pos 0) }

abbrev pub corner_of : ℕ → Vertex Number
corner_of n = record { number = n; point = at_whole (10 * (n % 4)) (10 * (n / 4)) }

abbrev pub across : ℕ → ℕ → Portal Number
across l r = record { left = corner_of l; right = corner_of r }

abbrev pub bent : Side → ℕ → Bend Number
bent t n = record { side = t; vertex = corner_of n }

abbrev pub string : List (Portal Number) → Vec Number → List (Bend Number)
string ps e = funnel quadratics sign (at_whole 6 2) ps e

pub record SheetStrings : Type 0 where
  -- round the hole on its right, and on its left, to the far corner cell
  pub hole_on_the_left : string (across 5 1 ∷ across 6 1 ∷ across 6 2 ∷ across 6 7 ∷ across 6 11 ∷ across 10 11 ∷ across 10 15 ∷ []) (at_whole 22 28) ≡ bent Left 6 ∷ []
  pub hole_on_the_right : string (across 0 5 ∷ across 4 5 ∷ across 4 9 ∷ across 8 9 ∷ across 13 9 ∷ across 14 9 ∷ across 14 10 ∷ []) (at_whole 22 28) ≡ bent Right 9 ∷ []
  -- once round, back to the start
  pub once_round : string (across 5 1 ∷ across 6 1 ∷ across 6 2 ∷ across 6 7 ∷ across 6 11 ∷ across 10 11 ∷ across 10 15 ∷ across 10 14 ∷ across 9 14 ∷ across 9 13 ∷ across 9 8 ∷ across 9 4 ∷ across 5 4 ∷ across 5 0 ∷ []) (at_whole 6 2) ≡ bent Left 6 ∷ bent Left 10 ∷ bent Left 9 ∷ []
  -- the line touches vertex 6 and does not bend there
  pub touching : string (across 5 1 ∷ across 6 1 ∷ across 6 2 ∷ across 6 7 ∷ []) (at_whole 27 14) ≡ []
