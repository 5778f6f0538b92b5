-- The sheet is sound, ended and within the limits, for any number of columns and rows up to 25 and any pitch above 0.
use Rattle.std.proofs.Common.{◌≡◌, ℕ, ◌+◌, ◌*◌, ◌<◌, ◌≤◌, false, ltb, sym, ap, ◌∙◌, ap₂, mul-le-mul, arith}
use Rattle.std.proofs.lemmas.Bool.Decides.{nat_tests}
use Rattle.base.specs.declared.ids.TriangleId.{TriangleId}
use Rattle.base.specs.declared.ids.HalfEdgeId.{HalfEdgeId}
use Rattle.base.specs.Ids.{half_edge, side, next, previous}
use Rattle.geometry.specs.Plane.{turn}
use Rattle.geometry.specs.declared.Turn.TheVariants.{Left}
use Rattle.mesh.specs.Surface.{Surface, Has, Ended, spot, Later, Covers, Opens}
use Rattle.mesh.specs.Sound.{Sound, CornerBelow, Paired, TurnsLeft}
use Rattle.surfaces.specs.Lawful.{Lawful}
use Rattle.surfaces.specs.Sheet.{cells, pair, width, sheet}
use Rattle.surfaces.proofs.SheetCells.{each}
use Rattle.surfaces.proofs.SheetTwins.{twins_at}
use Rattle.surfaces.proofs.SheetGrid.{corner_fits, left_at}
use Rattle.surfaces.proofs.SheetFans.{opens_at, falls_short}

past_test : (m n : ℕ) → n ≤ m → ltb m n ≡ false
past_test m n h = grind (arith, nat_tests)

module _ (a b g : ℕ) where
  abbrev f : Surface
  f = sheet a b g

  pub six : (h : HalfEdgeId) → Has f h → h.0 < 6 * cells a b
  six h l = thrice_twice h.0 (cells a b) l
    where
      thrice_twice : (n m : ℕ) → n < 3 * (2 * m) → n < 6 * m
      thrice_twice n m l = omega arith

  turns_at : 0 < g → (h : HalfEdgeId) → h.0 < 6 * cells a b → turn (spot f h) (spot f (next h)) (spot f (previous h)) ≡ Left
  turns_at wide h l = each a b (λ h. turn (spot f h) (spot f (next h)) (spot f (previous h)) ≡ Left) (λ q k e. left_at a b g wide q k e) h l

  turns_left : 0 < g → (t : TriangleId) → t.0 < f.F → TurnsLeft f t
  turns_left wide t l =
      let first : next (side t 0) ≡ side t 1 = ap half_edge (omega arith) in
      let second : previous (side t 0) ≡ side t 2 = ap half_edge (omega arith) in
      ap₂ (λ x y. turn (spot f (side t 0)) (spot f x) (spot f y)) (sym first) (sym second) ∙ turns_at wide (side t 0) (sixfold t.0 (cells a b) l)
    where
      sixfold : (n m : ℕ) → n < 2 * m → 3 * n + 0 < 6 * m
      sixfold n m l = omega arith

  pub sheet_sound : 0 < g → Sound f
  sheet_sound wide = record {
    corners = λ h l. each a b (CornerBelow f) (λ q k e. corner_fits a b g q k e) h (six h l);
    turns = turns_left wide;
    twins = λ h l. each a b (Paired f) (λ q k e d t. twins_at a b g q k e d t) h (six h l);
    fans = λ h l. each a b (Opens f) (λ q k e. opens_at a b g q k e) h (six h l);
    spans = λ h _ s l _ later covers. each a b (λ s. Later f s h → Covers f s h → ⊥) (λ q k e. falls_short a b g wide q k e h) s (six s l) later covers;
  }

  pub sheet_ended : Ended f
  sheet_ended = record {
    no_corner = λ h l. let t = past_test h.0 (6 * cells a b) (sixth h.0 (cells a b) l) in rw t;
    no_point = λ v l. let t = past_test v.0 (width a * width b) l in rw t;
    no_twin = λ h l. let t = past_test h.0 (6 * cells a b) (sixth h.0 (cells a b) l) in rw t;
  }
    where
      sixth : (n m : ℕ) → 3 * (2 * m) ≤ n → 6 * m ≤ n
      sixth n m l = omega arith

  pub sheet_lawful : a ≤ 25 → b ≤ 25 → 3 ≤ g → Lawful f
  sheet_lawful few_columns few_rows wide =
      let cells_in_pair : pair a ≤ 77 = omega arith in
      let columns : width a ≤ 52 = omega arith in
      let rows : width b ≤ 52 = omega arith in
      let p : b * pair a ≤ 25 * 77 = mul-le-mul few_rows cells_in_pair in
      let v : width a * width b ≤ 52 * 52 = mul-le-mul columns rows in
      record { sound = sheet_sound (omega arith); ended = sheet_ended; few_triangles = omega (arith, p); few_vertices = omega (arith, v) }
