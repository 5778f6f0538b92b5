-- What the definitions of the sheet come to at a number that is given, and how large the numbers grow.
use Rattle.std.proofs.Common.{◌≡◌, ℕ, ◌+◌, ◌-◌, ◌*◌, ◌/◌, ◌%◌, ◌<◌, ◌≤◌, cond, [], ◌∷◌, None, Option, sym, refl, ap, ◌∙◌, subst, ap₂, mul_comm, div-lt_iff_lt-mul, mul-le-mul, arith}
use Rattle.base.specs.declared.ids.TriangleId.{TriangleId}
use Rattle.base.specs.declared.ids.VertexId.{VertexId}
use Rattle.base.specs.declared.ids.HalfEdgeId.{HalfEdgeId}
use Rattle.base.specs.Ids.{vertex, side}
use Rattle.mesh.specs.Surface.{Surface}
use Rattle.surfaces.specs.Lawful.{CornersOf}
use Rattle.surfaces.specs.Sheet.{Cell, cell, pair, numbered, cells, Edge, bottom, right, down, up, top, left, edge, beyond, crossing, width, sheet_corner, sheet_twin, sheet}
use Rattle.surfaces.proofs.SheetCells.{below_test, cell_low, cell_high}

pub pairs_fit : (a m : ℕ) → a ≤ 25 → m ≤ 25 → m * pair a ≤ 1925
pairs_fit a m h k = let p : pair a ≤ 77 = omega arith in mul-le-mul k p

pub cells_fit : (a b : ℕ) → a ≤ 25 → b ≤ 25 → cells a b ≤ 1976
cells_fit a b h k = omega (arith, pairs_fit a b h k)

pub distance_fits : (n g : ℕ) → n ≤ 51 → g ≤ 100 → n * g ≤ 5100
distance_fits n g h k = mul-le-mul h k

-- the row of a vertex of the sheet
pub row_fits : (a b v : ℕ) → v < width a * width b → v / width a < width b
row_fits a b v h =
    let z : 0 < width a = omega arith in
    (div-lt_iff_lt-mul z).1 (subst (λ n. v < n) (mul_comm (width a) (width b)) h)

-- an even row comes before the odd row above it
pub low_cell : (a n : ℕ) → n % pair a < 2 * a + 1 → cell (n % pair a) (2 * (n / pair a)) ≡ numbered a n
low_cell a n h = sym (cell_low a (n / pair a) (n % pair a) h)

pub high_cell : (a n : ℕ) → 2 * a + 1 ≤ n % pair a → cell (2 * (n % pair a - (2 * a + 1))) (2 * (n / pair a) + 1) ≡ numbered a n
high_cell a n h = sym (cell_high a (n / pair a) (n % pair a) h)

sixth : (n m : ℕ) → n / 6 < m → n < 6 * m
sixth n m h = omega arith

module _ (a b g : ℕ) where
  abbrev f : Surface
  f = sheet a b g

  twin_is : (h : HalfEdgeId) → h.0 / 6 < cells a b → f.twin h ≡ sheet_twin a b (numbered a (h.0 / 6)) (edge (h.0 % 6))
  twin_is h l = ap (λ t. cond t (sheet_twin a b (numbered a (h.0 / 6)) (edge (h.0 % 6))) None) (below_test h.0 (6 * cells a b) (sixth h.0 (cells a b) l))

  -- the twin of a half-edge, from the cell beyond it
  pub twin_beyond : (h : HalfEdgeId) (q : Cell) (e : Edge) (o : Option Cell) → h.0 / 6 < cells a b → q ≡ numbered a (h.0 / 6) → e ≡ edge (h.0 % 6) → o ≡ beyond q e → crossing a b e o ≡ f.twin h
  twin_beyond h q e o l at by across = ap (crossing a b e) across ∙ ap₂ (sheet_twin a b) at by ∙ sym (twin_is h l)

  corner_is : (t : TriangleId) (k : ℕ) → k < 3 → t.0 / 2 < cells a b → f.corner (side t k) ≡ sheet_corner a (numbered a (t.0 / 2)) (edge (3 * (t.0 % 2) + k))
  corner_is t k s l =
      ap (λ u. cond u (sheet_corner a (numbered a ((3 * t.0 + k) / 6)) (edge ((3 * t.0 + k) % 6))) (vertex 0)) (below_test (3 * t.0 + k) (6 * cells a b) (within t.0 (cells a b) l))
      ∙ ap₂ (λ n e. sheet_corner a (numbered a n) (edge e)) (cell_of t.0) (edge_of t.0)
    where
      within : (n m : ℕ) → n / 2 < m → 3 * n + k < 6 * m
      within n m l = omega arith

      cell_of : (n : ℕ) → (3 * n + k) / 6 ≡ n / 2
      cell_of n = omega arith

      edge_of : (n : ℕ) → (3 * n + k) % 6 ≡ 3 * (n % 2) + k
      edge_of n = omega arith

  -- the corners of the two triangles of a cell
  module _ (t : TriangleId) (q : Cell) (below : t.0 / 2 < cells a b) (is : q ≡ numbered a (t.0 / 2)) (x y z : VertexId) where
    corner_by : (e : Edge) (v : VertexId) (k n : ℕ) → k < 3 → t.0 % 2 ≡ n → edge (3 * n + k) ≡ e → v ≡ sheet_corner a q e → v ≡ f.corner (side t k)
    corner_by e v k n s m i w =
        w
        ∙ ap₂ (sheet_corner a) is (sym i)
        ∙ ap (λ n. sheet_corner a (numbered a (t.0 / 2)) (edge (3 * n + k))) (sym m)
        ∙ sym (corner_is t k s below)

    pub lower_corners : t.0 % 2 ≡ 0 → x ≡ sheet_corner a q bottom → y ≡ sheet_corner a q right → z ≡ sheet_corner a q down → CornersOf f t (x ∷ y ∷ z ∷ [])
    lower_corners m ex ey ez = record {
      first = corner_by bottom x 0 0 (omega arith) m refl ex;
      second = corner_by right y 1 0 (omega arith) m refl ey;
      third = corner_by down z 2 0 (omega arith) m refl ez;
    }

    pub upper_corners : t.0 % 2 ≡ 1 → x ≡ sheet_corner a q up → y ≡ sheet_corner a q top → z ≡ sheet_corner a q left → CornersOf f t (x ∷ y ∷ z ∷ [])
    upper_corners m ex ey ez = record {
      first = corner_by up x 0 1 (omega arith) m refl ex;
      second = corner_by top y 1 1 (omega arith) m refl ey;
      third = corner_by left z 2 1 (omega arith) m refl ez;
    }
