-- Two half-edges of the sheet are twins exactly if each runs from the other's end to its start.
use Rattle.std.proofs.Common.{◌≡◌, ℕ, ◌+◌, ◌-◌, ◌/◌, ◌%◌, ◌<◌, false, cond, eqb, Some, None, sym, refl, ap, ◌∙◌, arith}
use lib.Arith.{digits_div, digits_mod}
use Rattle.std.proofs.lemmas.Bool.Decides.{nat_tests}
use Rattle.base.specs.declared.ids.HalfEdgeId.{HalfEdgeId}
use Rattle.base.specs.Ids.{next}
use Rattle.mesh.specs.Surface.{Surface}
use Rattle.surfaces.specs.Sheet.{Cell, cell, Edge, bottom, right, down, up, top, left, code, opposite, beyond, corner_column, corner_row, grid_vertex, width, sheet, TwinsByEnds}
use Rattle.surfaces.proofs.SheetCells.{Kept, each, same_cell}
use Rattle.surfaces.proofs.SheetTwins.{after, next_code, corner_at, Shares, leads_to, twins_at}
use Rattle.surfaces.proofs.SheetGrid.{column_below}
use Rattle.surfaces.proofs.SheetLawful.{six}

-- ends that fit leave only the opposite half-edge
opposite_fits : (q p : Cell) (e x : Edge) → corner_column q e ≡ corner_column p (after x) → corner_row q e ≡ corner_row p (after x) → corner_column q (after e) ≡ corner_column p x → corner_row q (after e) ≡ corner_row p x → x ≡ opposite e
opposite_fits q p bottom x c r c' r' = grind arith
opposite_fits q p right x c r c' r' = grind arith
opposite_fits q p down x c r c' r' = grind arith
opposite_fits q p up x c r c' r' = grind arith
opposite_fits q p top x c r c' r' = grind arith
opposite_fits q p left x c r c' r' = grind arith

less_one : (n m : ℕ) (p : ℕ → Cell) → n ≡ m + 1 → cond (eqb n 0) None (Some (p (n - 1))) ≡ Some (p m)
less_one n m p e =
    let t : eqb n 0 ≡ false = grind (arith, nat_tests) in
    let i : n - 1 ≡ m = omega arith in
    rw (t, i)

beyond_fits : (q p : Cell) (e : Edge) → Shares q e p → beyond q e ≡ Some p
beyond_fits q p bottom s = less_one q.row p.row (λ r. cell q.column r) s.from_row ∙ ap Some (same_cell s.from_column refl)
beyond_fits q p right s = ap Some (same_cell s.from_column s.from_row)
beyond_fits q p down s = ap Some (same_cell s.to_column s.to_row)
beyond_fits q p up s = ap Some (same_cell s.from_column s.from_row)
beyond_fits q p top s = ap Some (same_cell s.to_column s.from_row)
beyond_fits q p left s = less_one q.column p.column (λ c. cell c q.row) s.from_column ∙ ap Some (same_cell refl s.to_row)

module _ (a b g : ℕ) where
  abbrev f : Surface
  f = sheet a b g

  same_column : (c r c' r' : ℕ) → c < width a → c' < width a → grid_vertex a c r ≡ grid_vertex a c' r' → c ≡ c'
  same_column c r c' r' h k e = sym (digits_mod r h) ∙ ap (λ v. v.0 % width a) e ∙ digits_mod r' k

  same_row : (c r c' r' : ℕ) → c < width a → c' < width a → grid_vertex a c r ≡ grid_vertex a c' r' → r ≡ r'
  same_row c r c' r' h k e = sym (digits_div r h) ∙ ap (λ v. v.0 / width a) e ∙ digits_div r' k

  twins_fit : (q : Cell) → Kept a b q → (e : Edge) (p : Cell) → Kept a b p → (x : Edge) → f.corner (code a q e) ≡ f.corner (next (code a p x)) → f.corner (next (code a q e)) ≡ f.corner (code a p x) → f.twin (code a q e) ≡ Some (code a p x)
  twins_fit q k e p l x from to =
      let u = sym (corner_at a b g q k e) ∙ from ∙ ap f.corner (next_code a p x) ∙ corner_at a b g p l (after x) in
      let w = sym (corner_at a b g q k (after e)) ∙ ap f.corner (sym (next_code a q e)) ∙ to ∙ corner_at a b g p l x in
      let c = same_column (corner_column q e) (corner_row q e) (corner_column p (after x)) (corner_row p (after x)) (column_below a b q k e) (column_below a b p l (after x)) u in
      let r = same_row (corner_column q e) (corner_row q e) (corner_column p (after x)) (corner_row p (after x)) (column_below a b q k e) (column_below a b p l (after x)) u in
      let c' = same_column (corner_column q (after e)) (corner_row q (after e)) (corner_column p x) (corner_row p x) (column_below a b q k (after e)) (column_below a b p l x) w in
      let r' = same_row (corner_column q (after e)) (corner_row q (after e)) (corner_column p x) (corner_row p x) (column_below a b q k (after e)) (column_below a b p l x) w in
      let o = opposite_fits q p e x c r c' r' in
      let s : Shares q e p = record {
        from_column = c ∙ ap (λ y. corner_column p (after y)) o;
        from_row = r ∙ ap (λ y. corner_row p (after y)) o;
        to_column = c' ∙ ap (corner_column p) o;
        to_row = r' ∙ ap (corner_row p) o;
      } in
      leads_to a b g q k e p l (beyond_fits q p e s) ∙ ap (λ y. Some (code a p y)) (sym o)

  pub twins_by_ends : TwinsByEnds a b g
  twins_by_ends h d i j = (fit, made)
    where
      fit : f.twin h ≡ Some d → (f.corner h ≡ f.corner (next d)) × (f.corner (next h) ≡ f.corner d)
      fit t =
          let w = each a b (λ h. (d : HalfEdgeId) → f.twin h ≡ Some d → (f.corner h ≡ f.corner (next d)) × (f.corner (next h) ≡ f.corner d)) (λ q k e d t. let w = twins_at a b g q k e d t in (w.from, w.to)) h (six a b g h i) d t in
          w

      made : (f.corner h ≡ f.corner (next d)) × (f.corner (next h) ≡ f.corner d) → f.twin h ≡ Some d
      made m =
          each a b (λ h. f.corner h ≡ f.corner (next d) → f.corner (next h) ≡ f.corner d → f.twin h ≡ Some d)
          (λ q k e. each a b (λ d. f.corner (code a q e) ≡ f.corner (next d) → f.corner (next (code a q e)) ≡ f.corner d → f.twin (code a q e) ≡ Some d) (λ p l x. twins_fit q k e p l x) d (six a b g d j))
          h
          (six a b g h i)
          m.0
          m.1
