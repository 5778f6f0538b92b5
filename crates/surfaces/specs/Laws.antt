-- What is proved of the sheet and of the layers; src/laws.rt asks for each.
-- SheetsLawful      every sheet within its ranges is what a mesh owes
-- SheetCells        its kept cells and their numbers lead to each other
-- SheetTwins        its twins are exactly the half-edges with exchanged ends
-- SmallSheet        the sheet with one hole and the pitch 10: its counts, the corners of triangle 3, and the twin of half-edge 1
-- MirrorsLawful     the mirror image of what a mesh owes is so too
-- MirroredTwice     mirrored twice a surface is the same again
-- BarsLawful        with any portals barred it is so too
-- BarsBothSides     a portal with a bar on either side is boundary from both, and every other twin stays
-- BarredAgain       one more bar is one more layer with that bar alone
-- RaysApart         in a fan no first ray lies in the sector of a later corner, and no last ray in the sector of an earlier one
use Rattle.std.specs.Prelude.{◌≡◌, ℕ, ◌≤◌, true, false, ◌||◌, List, [], ◌∷◌, ◌++◌, Some, None}
use Rattle.base.specs.declared.ids.HalfEdgeId.{HalfEdgeId}
use Rattle.base.specs.Ids.{vertex, half_edge, triangle, side, next, previous}
use Rattle.geometry.specs.Plane.{turn}
use Rattle.mesh.specs.Surface.{Surface, Has, spot, Later, Covers, NotRight}
use Rattle.surfaces.specs.Lawful.{Lawful, Alike}
use Rattle.surfaces.specs.Layers.{mirrored, among, barred}
use Rattle.surfaces.specs.Sheet.{sheet, CellsByNumber, TwinsByEnds}

abbrev pub SheetsLawful : Type 0
SheetsLawful = (a b g : ℕ) → a ≤ 25 → b ≤ 25 → 3 ≤ g → Lawful (sheet a b g)

abbrev pub SheetCells : Type 0
SheetCells = (a b : ℕ) → CellsByNumber a b

abbrev pub SheetTwins : Type 0
SheetTwins = (a b g : ℕ) → TwinsByEnds a b g

pub record SmallSheet : Type 0 where
  pub triangles : (sheet 1 1 10).F ≡ 16
  pub vertices : (sheet 1 1 10).V ≡ 16
  pub first : (sheet 1 1 10).corner (side (triangle 3) 0) ≡ vertex 1
  pub second : (sheet 1 1 10).corner (side (triangle 3) 1) ≡ vertex 6
  pub third : (sheet 1 1 10).corner (side (triangle 3) 2) ≡ vertex 5
  pub twin : (sheet 1 1 10).twin (half_edge 1) ≡ Some (half_edge 11)

abbrev pub MirrorsLawful : Type 0
MirrorsLawful = (f : Surface) → Lawful f → Lawful (mirrored f)

abbrev pub MirroredTwice : Type 0
MirroredTwice = (f : Surface) → Alike (mirrored (mirrored f)) f

abbrev pub BarsLawful : Type 0
BarsLawful = (bars : List HalfEdgeId) (f : Surface) → Lawful f → Lawful (barred bars f)

abbrev pub BarsBothSides : Type 0
BarsBothSides = (f : Surface) → Lawful f → (bars : List HalfEdgeId) (h d : HalfEdgeId) → f.twin h ≡ Some d →
    ((among bars h || among bars d) ≡ true → ((barred bars f).twin h ≡ None) × ((barred bars f).twin d ≡ None))
    × ((among bars h || among bars d) ≡ false → (barred bars f).twin h ≡ Some d)

abbrev pub BarredAgain : Type 0
BarredAgain = (bars : List HalfEdgeId) (b : HalfEdgeId) (f : Surface) → Alike (barred (bars ++ b ∷ []) f) (barred (b ∷ []) (barred bars f))

-- of a corner s and a later corner h of its fan
abbrev pub RaysApart : Type 0
RaysApart = (f : Surface) → Lawful f → (s h : HalfEdgeId) → Has f s → Later f s h →
    (Covers f s h → ⊥)
    × (NotRight (turn (spot f s) (spot f (next s)) (spot f (previous h))) × NotRight (turn (spot f s) (spot f (previous h)) (spot f (previous s))) → ⊥)
