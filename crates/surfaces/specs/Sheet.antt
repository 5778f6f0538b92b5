-- The sheet with a columns and b rows of square holes, at the pitch g.
-- Cell            a square of the grid, by its column and its row; cell makes one
-- odd             a number leaves 1 at division by 2
-- kept            a cell of the sheet: its column is at most 2a, its row at most 2b, and one of them is even; with both odd it is a hole
-- pair            how many cells are kept of an even row and the odd row above it
-- cell_number     the number of a kept cell: by such pairs of rows, in each the even row before the odd one, from left to right
-- cell_in         the cell at a place of a pair of rows
-- numbered        the cell of a number
-- cells           how many cells are kept
-- Edge            the six half-edges of a cell: bottom, right and down of its lower triangle, up, top and left of its upper one; down and up are the two halves of its diagonal
-- edge            the half-edge of a cell by its number, and edge_number back
-- code            a half-edge of a kept cell, as the sheet numbers them: triangle 2n is the lower one of cell n, 2n + 1 the upper
-- opposite        the half-edge that runs the other way on the same side of the square
-- beyond          the cell across a half-edge, if the grid has one there
-- crossing        the half-edge across: that of the cell beyond, if it is kept
-- corner_column, corner_row   where in the grid a half-edge of a cell begins
-- width           how many vertices a row of the grid has; with the rows of holes in place of the columns, how many a column has
-- grid_vertex     the vertex of a column and a row
-- grid_point      the point of a column and a row
-- sheet_corner    the vertex at which a half-edge of a cell begins
-- sheet_twin      the half-edge across a half-edge of a cell
-- sheet           the surface of it all; past its end it answers vertex 0, the origin and boundary
-- sheet_refusal   why a sheet cannot be made: more than 25 columns, or else more than 25 rows, or else a pitch that is not 3 to 100
-- CellsByNumber   kept cells and the numbers below their count are the same thing: each leads to the other and back
-- TwinsByEnds     two half-edges of the sheet are twins exactly if each runs from the other's end to its start
use Rattle.std.specs.Prelude.{◌≡◌, ℕ, zero, suc, ◌+◌, ◌-◌, ◌*◌, ◌/◌, ◌%◌, ◌<◌, Bool, true, cond, not, ◌&&◌, pos, Some, None, Option, ◌==◌, nat_le, nat_lt}
use Rattle.base.specs.declared.ids.VertexId.{VertexId}
use Rattle.base.specs.declared.ids.HalfEdgeId.{HalfEdgeId}
use Rattle.base.specs.declared.refusals.SheetParameter.TheVariants.{Columns, Rows, Pitch}
use Rattle.base.specs.declared.refusals.Refusal.{Refusal}
use Rattle.base.specs.declared.refusals.Refusal.TheVariants.{SheetRange}
use Rattle.base.specs.Ids.{vertex, half_edge, next}
use Rattle.algebra.specs.Number.{number}
use Rattle.geometry.specs.Plane.{Point, point, origin}
use Rattle.mesh.specs.Surface.{Surface, Has}

pub record Cell : Type 0 where
  pub column : ℕ
  pub row : ℕ

abbrev pub cell : ℕ → ℕ → Cell
cell c r = record { column = c; row = r }

abbrev pub odd : ℕ → Bool
odd n = n % 2 == 1

abbrev pub kept : ℕ → ℕ → Cell → Bool
kept a b q = nat_le q.column (2 * a) && nat_le q.row (2 * b) && not (odd q.column && odd q.row)

abbrev pub pair : ℕ → ℕ
pair a = 3 * a + 2

abbrev pub cell_number : ℕ → Cell → ℕ
cell_number a q = q.row / 2 * pair a + cond (odd q.row) (2 * a + 1 + q.column / 2) q.column

abbrev pub cell_in : ℕ → ℕ → ℕ → Cell
cell_in a m j = cond (nat_lt j (2 * a + 1)) (cell j (2 * m)) (cell (2 * (j - (2 * a + 1))) (2 * m + 1))

abbrev pub numbered : ℕ → ℕ → Cell
numbered a n = cell_in a (n / pair a) (n % pair a)

abbrev pub cells : ℕ → ℕ → ℕ
cells a b = b * pair a + (2 * a + 1)

pub data Edge : Type 0 where
  bottom : Edge
  right : Edge
  down : Edge
  up : Edge
  top : Edge
  left : Edge

abbrev pub edge : ℕ → Edge
edge zero = bottom
edge (suc zero) = right
edge (suc (suc zero)) = down
edge (suc (suc (suc zero))) = up
edge (suc (suc (suc (suc zero)))) = top
edge (suc (suc (suc (suc (suc n))))) = left

abbrev pub edge_number : Edge → ℕ
edge_number bottom = 0
edge_number right = 1
edge_number down = 2
edge_number up = 3
edge_number top = 4
edge_number left = 5

abbrev pub code : ℕ → Cell → Edge → HalfEdgeId
code a q e = half_edge (6 * cell_number a q + edge_number e)

abbrev pub opposite : Edge → Edge
opposite bottom = top
opposite right = left
opposite down = up
opposite up = down
opposite top = bottom
opposite left = right

abbrev pub beyond : Cell → Edge → Option Cell
beyond q bottom = cond (q.row == 0) None (Some (cell q.column (q.row - 1)))
beyond q right = Some (cell (q.column + 1) q.row)
beyond q down = Some q
beyond q up = Some q
beyond q top = Some (cell q.column (q.row + 1))
beyond q left = cond (q.column == 0) None (Some (cell (q.column - 1) q.row))

abbrev pub crossing : ℕ → ℕ → Edge → Option Cell → Option HalfEdgeId
crossing a b e None = None
crossing a b e (Some q) = cond (kept a b q) (Some (code a q (opposite e))) None

abbrev pub corner_column : Cell → Edge → ℕ
corner_column q bottom = q.column
corner_column q right = q.column + 1
corner_column q down = q.column + 1
corner_column q up = q.column
corner_column q top = q.column + 1
corner_column q left = q.column

abbrev pub corner_row : Cell → Edge → ℕ
corner_row q bottom = q.row
corner_row q right = q.row
corner_row q down = q.row + 1
corner_row q up = q.row
corner_row q top = q.row + 1
corner_row q left = q.row + 1

abbrev pub width : ℕ → ℕ
width a = 2 * a + 2

abbrev pub grid_vertex : ℕ → ℕ → ℕ → VertexId
grid_vertex a c r = vertex (r * width a + c)

abbrev pub grid_point : ℕ → ℕ → ℕ → Point
grid_point g c r = point (number (pos (c * g)) (pos 0)) (number (pos (r * g)) (pos 0))

abbrev pub sheet_corner : ℕ → Cell → Edge → VertexId
sheet_corner a q e = grid_vertex a (corner_column q e) (corner_row q e)

abbrev pub sheet_twin : ℕ → ℕ → Cell → Edge → Option HalfEdgeId
sheet_twin a b q e = crossing a b e (beyond q e)

abbrev pub sheet : ℕ → ℕ → ℕ → Surface
sheet a b g = record {
  F = 2 * cells a b;
  V = width a * width b;
  corner = λ h. cond (nat_lt h.0 (6 * cells a b)) (sheet_corner a (numbered a (h.0 / 6)) (edge (h.0 % 6))) (vertex 0);
  point = λ v. cond (nat_lt v.0 (width a * width b)) (grid_point g (v.0 % width a) (v.0 / width a)) origin;
  twin = λ h. cond (nat_lt h.0 (6 * cells a b)) (sheet_twin a b (numbered a (h.0 / 6)) (edge (h.0 % 6))) None;
}

abbrev pub sheet_refusal : ℕ → ℕ → ℕ → Option Refusal
sheet_refusal a b g =
    cond (nat_le a 25) (cond (nat_le b 25) (cond (nat_le 3 g && nat_le g 100) None (Some (SheetRange Pitch))) (Some (SheetRange Rows))) (Some (SheetRange Columns))

abbrev pub CellsByNumber : ℕ → ℕ → Type 0
CellsByNumber a b =
    ((q : Cell) → kept a b q ≡ true → (cell_number a q < cells a b) × (numbered a (cell_number a q) ≡ q))
    × ((n : ℕ) → n < cells a b → (kept a b (numbered a n) ≡ true) × (cell_number a (numbered a n) ≡ n))

abbrev pub TwinsByEnds : ℕ → ℕ → ℕ → Type 0
TwinsByEnds a b g = (h d : HalfEdgeId) → Has (sheet a b g) h → Has (sheet a b g) d →
    ((sheet a b g).twin h ≡ Some d → ((sheet a b g).corner h ≡ (sheet a b g).corner (next d)) × ((sheet a b g).corner (next h) ≡ (sheet a b g).corner d))
    × (((sheet a b g).corner h ≡ (sheet a b g).corner (next d)) × ((sheet a b g).corner (next h) ≡ (sheet a b g).corner d) → (sheet a b g).twin h ≡ Some d)
