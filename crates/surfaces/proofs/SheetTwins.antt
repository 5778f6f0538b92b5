-- Twins of the sheet: the half-edge across is that of the kept cell beyond, the two lead to each other and share their ends.
use Rattle.std.proofs.Common.{◌≡◌, ℕ, ◌+◌, ◌-◌, ◌*◌, Bool, true, false, cond, eqb, Some, None, Option, sym, refl, ap, ◌∙◌, subst, ap₂, inl, inr, arith}
use Rattle.std.proofs.lemmas.Bool.Decides.{nat_tests, eqb_tells}
use Rattle.base.specs.declared.ids.HalfEdgeId.{HalfEdgeId}
use Rattle.base.specs.Ids.{half_edge, next, previous}
use Rattle.mesh.specs.Surface.{Surface, Has, Twins}
use Rattle.surfaces.specs.Sheet.{Cell, cell, kept, cell_number, Edge, bottom, right, down, up, top, left, edge_number, code, opposite, beyond, crossing, corner_column, corner_row, grid_vertex, sheet_corner, sheet_twin, sheet}
use Rattle.surfaces.proofs.SheetCells.{Kept, kept_of, of_kept, code_below, at_code}

-- the half-edges of one triangle
abbrev pub after : Edge → Edge
after bottom = right
after right = down
after down = bottom
after up = top
after top = left
after left = up

abbrev pub before : Edge → Edge
before bottom = down
before right = bottom
before down = right
before up = left
before top = up
before left = top

next_at : (n : ℕ) (e : Edge) → next (half_edge (6 * n + edge_number e)) ≡ half_edge (6 * n + edge_number (after e))
next_at n bottom = ap half_edge (omega arith)
next_at n right = ap half_edge (omega arith)
next_at n down = ap half_edge (omega arith)
next_at n up = ap half_edge (omega arith)
next_at n top = ap half_edge (omega arith)
next_at n left = ap half_edge (omega arith)

previous_at : (n : ℕ) (e : Edge) → previous (half_edge (6 * n + edge_number e)) ≡ half_edge (6 * n + edge_number (before e))
previous_at n bottom = ap half_edge (omega arith)
previous_at n right = ap half_edge (omega arith)
previous_at n down = ap half_edge (omega arith)
previous_at n up = ap half_edge (omega arith)
previous_at n top = ap half_edge (omega arith)
previous_at n left = ap half_edge (omega arith)

pub next_code : (a : ℕ) (q : Cell) (e : Edge) → next (code a q e) ≡ code a q (after e)
next_code a q e = next_at (cell_number a q) e

pub previous_code : (a : ℕ) (q : Cell) (e : Edge) → previous (code a q e) ≡ code a q (before e)
previous_code a q e = previous_at (cell_number a q) e

-- ---- the cell beyond
pub record Shares (q : Cell) (e : Edge) (p : Cell) : Type 0 where
  pub from_column : corner_column q e ≡ corner_column p (after (opposite e))
  pub from_row : corner_row q e ≡ corner_row p (after (opposite e))
  pub to_column : corner_column q (after e) ≡ corner_column p (opposite e)
  pub to_row : corner_row q (after e) ≡ corner_row p (opposite e)

some_cell : {p q : Cell} → Some p ≡ Some q → p ≡ q
some_cell {p} {q} e = cc

-- across a side of the square that may be the grid's own: the cell beyond is one column or row less
lower : (n : ℕ) (p : ℕ → Cell) (q : Cell) → cond (eqb n 0) None (Some (p (n - 1))) ≡ Some q → (m : ℕ) × (n ≡ m + 1) × (p m ≡ q)
lower n p q e = elim (eqb_tells n 0) [
  | inl t ↦ absurd (none_some (subst (λ b. cond b None (Some (p (n - 1))) ≡ Some q) t.0 e))
  | inr t ↦ (n - 1, omega (arith, t.1), some_cell (subst (λ b. cond b None (Some (p (n - 1))) ≡ Some q) t.0 e))
]
  where
    none_some : {q : Cell} → None ≡ Some q → ⊥
    none_some e = let z : ◌≡◌ {A = ℕ} 0 1 = cc in omega arith

pub shares : (q : Cell) (e : Edge) (p : Cell) → beyond q e ≡ Some p → Shares q e p
shares q bottom p o =
    let l = lower q.row (λ r. cell q.column r) p o in
    let s : Shares (cell q.column (l.0 + 1)) bottom (cell q.column l.0) = record { from_column = refl; from_row = refl; to_column = refl; to_row = refl } in
    subst (λ p. Shares q bottom p) l.2 (subst (λ r. Shares (cell q.column r) bottom (cell q.column l.0)) (sym l.1) s)
shares q right p o = subst (λ p. Shares q right p) (some_cell o) (record { from_column = refl; from_row = refl; to_column = refl; to_row = refl })
shares q down p o = subst (λ p. Shares q down p) (some_cell o) (record { from_column = refl; from_row = refl; to_column = refl; to_row = refl })
shares q up p o = subst (λ p. Shares q up p) (some_cell o) (record { from_column = refl; from_row = refl; to_column = refl; to_row = refl })
shares q top p o = subst (λ p. Shares q top p) (some_cell o) (record { from_column = refl; from_row = refl; to_column = refl; to_row = refl })
shares q left p o =
    let l = lower q.column (λ c. cell c q.row) p o in
    let s : Shares (cell (l.0 + 1) q.row) left (cell l.0 q.row) = record { from_column = refl; from_row = refl; to_column = refl; to_row = refl } in
    subst (λ p. Shares q left p) l.2 (subst (λ c. Shares (cell c q.row) left (cell l.0 q.row)) (sym l.1) s)

raised : (n : ℕ) (p : ℕ → Cell) → cond (eqb (n + 1) 0) None (Some (p (n + 1 - 1))) ≡ Some (p n)
raised n p =
    let t : eqb (n + 1) 0 ≡ false = grind (arith, nat_tests) in
    let m : n + 1 - 1 ≡ n = omega arith in
    rw (t, m)

-- and it is the other way round too
pub returns : (q : Cell) (e : Edge) (p : Cell) → beyond q e ≡ Some p → beyond p (opposite e) ≡ Some q
returns q bottom p o =
    let l = lower q.row (λ r. cell q.column r) p o in
    subst (λ p. beyond p top ≡ Some q) l.2 (ap (λ r. Some (cell q.column r)) (sym l.1))
returns q right p o = subst (λ p. beyond p left ≡ Some q) (some_cell o) (raised q.column (λ c. cell c q.row))
returns q down p o = ap Some (sym (some_cell o))
returns q up p o = ap Some (sym (some_cell o))
returns q top p o = subst (λ p. beyond p bottom ≡ Some q) (some_cell o) (raised q.row (λ r. cell q.column r))
returns q left p o =
    let l = lower q.column (λ c. cell c q.row) p o in
    subst (λ p. beyond p right ≡ Some q) l.2 (ap (λ c. Some (cell c q.row)) (sym l.1))

-- ---- the half-edge beyond
pub record Crossed (a b : ℕ) (q : Cell) (e : Edge) (d : HalfEdgeId) : Type 0 where
  pub far : Cell
  pub there : beyond q e ≡ Some far
  pub keeps : Kept a b far
  pub is : d ≡ code a far (opposite e)

opposite_twice : (e : Edge) → opposite (opposite e) ≡ e
opposite_twice bottom = refl
opposite_twice right = refl
opposite_twice down = refl
opposite_twice up = refl
opposite_twice top = refl
opposite_twice left = refl

module _ (a b g : ℕ) where
  abbrev f : Surface
  f = sheet a b g

  crossed_by : (q : Cell) (e : Edge) (d : HalfEdgeId) (o : Option Cell) → beyond q e ≡ o → crossing a b e o ≡ Some d → Crossed a b q e d
  crossed_by q e d None o c = absurd (let z : ◌≡◌ {A = ℕ} 0 1 = cc in omega arith)
  crossed_by q e d (Some p) o c = by_test (kept a b p) refl c
    where
      by_test : (t : Bool) → kept a b p ≡ t → cond t (Some (code a p (opposite e))) None ≡ Some d → Crossed a b q e d
      by_test true k c = record { far = p; there = o; keeps = kept_of a b p k; is = some_code c }
        where
          some_code : {x y : HalfEdgeId} → Some x ≡ Some y → y ≡ x
          some_code c = cc
      by_test false k c = absurd (let z : ◌≡◌ {A = ℕ} 0 1 = cc in omega arith)

  pub twin_at : (q : Cell) → Kept a b q → (e : Edge) → f.twin (code a q e) ≡ sheet_twin a b q e
  twin_at q k e = at_code a b q k e (sheet_twin a b) None

  pub corner_at : (q : Cell) → Kept a b q → (e : Edge) → f.corner (code a q e) ≡ sheet_corner a q e
  corner_at q k e = at_code a b q k e (sheet_corner a) _

  pub crossed : (q : Cell) → Kept a b q → (e : Edge) (d : HalfEdgeId) → f.twin (code a q e) ≡ Some d → Crossed a b q e d
  crossed q k e d t = crossed_by q e d (beyond q e) refl (sym (twin_at q k e) ∙ t)

  pub leads_to : (q : Cell) → Kept a b q → (e : Edge) (p : Cell) → Kept a b p → beyond q e ≡ Some p → f.twin (code a q e) ≡ Some (code a p (opposite e))
  leads_to q k e p l o =
      twin_at q k e ∙ ap (crossing a b e) o ∙ ap (λ t. cond t (Some (code a p (opposite e))) None) (of_kept a b p l)

  pub twins_at : (q : Cell) → Kept a b q → (e : Edge) (d : HalfEdgeId) → f.twin (code a q e) ≡ Some d → Twins f (code a q e) d
  twins_at q k e d t =
      let c = crossed q k e d t in
      let s = shares q e c.far c.there in
      subst (Twins f (code a q e)) (sym c.is) (record {
        within = code_has c.far c.keeps (opposite e);
        back = leads_to c.far c.keeps (opposite e) q k (returns q e c.far c.there) ∙ ap (λ x. Some (code a q x)) (opposite_twice e);
        from = corner_at q k e ∙ ap₂ (grid_vertex a) s.from_column s.from_row ∙ sym (corner_at c.far c.keeps (after (opposite e))) ∙ ap f.corner (sym (next_code a c.far (opposite e)));
        to = ap f.corner (next_code a q e) ∙ corner_at q k (after e) ∙ ap₂ (grid_vertex a) s.to_column s.to_row ∙ sym (corner_at c.far c.keeps (opposite e));
      })
    where
      code_has : (p : Cell) → Kept a b p → (e : Edge) → Has f (code a p e)
      code_has p k e = omega (arith, code_below a b p k e)
