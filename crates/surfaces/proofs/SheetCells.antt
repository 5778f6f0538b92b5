-- Kept cells and their numbers: the number of a kept cell is below their count and leads back to the cell,
-- and every number below the count is the number of a kept cell. So what holds of each half-edge of each kept cell holds of each half-edge of the sheet.
use Rattle.std.proofs.Common.{◌≡◌, ℕ, zero, suc, ◌+◌, ◌-◌, ◌*◌, ◌/◌, ◌%◌, ◌<◌, ◌≤◌, true, false, cond, ltb, ◌⊎◌, sym, refl, ap, ◌∙◌, subst, ap₂, inl, inr, mul-le-mul_right, mod-lt, div-add-mod', arith}
use lib.Arith.{digits_div, digits_mod, digits_lt}
use Rattle.std.proofs.lemmas.Bool.Decides.{nat_tests, leb_tells}
use Rattle.base.specs.declared.ids.HalfEdgeId.{HalfEdgeId}
use Rattle.base.specs.Ids.{half_edge}
use Rattle.surfaces.specs.Sheet.{Cell, cell, odd, kept, pair, cell_number, cell_in, numbered, cells, Edge, bottom, right, down, up, top, left, edge, edge_number, code, CellsByNumber}

pub record Kept (a b : ℕ) (q : Cell) : Type 0 where
  pub columns : q.column ≤ 2 * a
  pub rows : q.row ≤ 2 * b
  pub no_hole : q.column % 2 ≡ 1 → q.row % 2 ≡ 1 → ⊥

pub kept_of : (a b : ℕ) (q : Cell) → kept a b q ≡ true → Kept a b q
kept_of a b q e = record { columns = grind (arith, nat_tests); rows = grind (arith, nat_tests); no_hole = grind (arith, nat_tests) }

pub of_kept : (a b : ℕ) (q : Cell) → Kept a b q → kept a b q ≡ true
of_kept a b q k = grind (arith, nat_tests, k.no_hole)

-- where in its pair of rows a kept cell stands
abbrev offset : ℕ → Cell → ℕ
offset a q = cond (odd q.row) (2 * a + 1 + q.column / 2) q.column

pub below_test : (m n : ℕ) → m < n → ltb m n ≡ true
below_test m n h = grind (arith, nat_tests)

offset_below : (a b : ℕ) (q : Cell) → Kept a b q → offset a q < pair a
offset_below a b q k = grind (arith, nat_tests, k.no_hole, k.columns)

pub split : (m n : ℕ) → (m < n) ⊎ (n ≤ m)
split m n = elim (leb_tells (suc m) n) [ inl h ↦ inl h.1 | inr h ↦ inr (omega (arith, h.1)) ]

offset_even : (a : ℕ) (q : Cell) → q.row % 2 ≡ 0 → offset a q ≡ q.column
offset_even a q e = rw e

pub number_below : (a b : ℕ) (q : Cell) → Kept a b q → cell_number a q < cells a b
number_below a b q k = elim (split (q.row / 2) b) [
  | inl l ↦ let d = digits_lt {q = q.row / 2} {m = b} {r = offset a q} {c = pair a} l (offset_below a b q k) in omega (arith, d)
  | inr g ↦
      let e : q.row / 2 ≡ b = omega (arith, k.rows) in
      let z : q.row % 2 ≡ 0 = omega (arith, k.rows) in
      omega (arith, ap (λ m. m * pair a) e, offset_even a q z, k.columns)
]

pub same_cell : {p q : Cell} → p.column ≡ q.column → p.row ≡ q.row → p ≡ q
same_cell e f = λ i. record { column = e i; row = f i }

in_pair : (a b : ℕ) (q : Cell) → Kept a b q → cell_in a (q.row / 2) (offset a q) ≡ q
in_pair a b q k = same_cell (grind (arith, nat_tests, k.no_hole, k.columns)) (grind (arith, nat_tests, k.no_hole, k.columns))

pub numbered_number : (a b : ℕ) (q : Cell) → Kept a b q → numbered a (cell_number a q) ≡ q
numbered_number a b q k =
    let o = offset_below a b q k in
    ap₂ (cell_in a) (digits_div (q.row / 2) o) (digits_mod (q.row / 2) o) ∙ in_pair a b q k

number_low : (a m j : ℕ) → cell_number a (cell j (2 * m)) ≡ m * pair a + j
number_low a m j =
    let e : 2 * m / 2 ≡ m = omega arith in
    let z : 2 * m % 2 ≡ 0 = omega arith in
    rw (e, z)

number_high : (a m i : ℕ) → cell_number a (cell (2 * i) (2 * m + 1)) ≡ m * pair a + (2 * a + 1 + i)
number_high a m i =
    let e : (2 * m + 1) / 2 ≡ m = omega arith in
    let z : (2 * m + 1) % 2 ≡ 1 = omega arith in
    let w : 2 * i / 2 ≡ i = omega arith in
    rw (e, z, w)

pub cell_low : (a m j : ℕ) → j < 2 * a + 1 → cell_in a m j ≡ cell j (2 * m)
cell_low a m j h = let t : ltb j (2 * a + 1) ≡ true = grind (arith, nat_tests) in rw t

pub cell_high : (a m j : ℕ) → 2 * a + 1 ≤ j → cell_in a m j ≡ cell (2 * (j - (2 * a + 1))) (2 * m + 1)
cell_high a m j h = let t : ltb j (2 * a + 1) ≡ false = grind (arith, nat_tests) in rw t

number_in : (a m j : ℕ) → cell_number a (cell_in a m j) ≡ m * pair a + j
number_in a m j = elim (split j (2 * a + 1)) [
  | inl l ↦ ap (cell_number a) (cell_low a m j l) ∙ number_low a m j
  | inr g ↦ ap (cell_number a) (cell_high a m j g) ∙ number_high a m (j - (2 * a + 1)) ∙ ap (λ i. m * pair a + i) (omega arith)
]

pub number_numbered : (a n : ℕ) → cell_number a (numbered a n) ≡ n
number_numbered a n = number_in a (n / pair a) (n % pair a) ∙ div-add-mod' n (pair a)

kept_low : (a b m j : ℕ) → m ≤ b → j < 2 * a + 1 → Kept a b (cell j (2 * m))
kept_low a b m j h l = record { columns = omega arith; rows = omega arith; no_hole = λ x y. omega arith }

kept_high : (a b m i : ℕ) → m < b → i ≤ a → Kept a b (cell (2 * i) (2 * m + 1))
kept_high a b m i h l = record { columns = omega arith; rows = omega arith; no_hole = λ x y. omega arith }

kept_in : (a b m j : ℕ) → j < pair a → m * pair a + j < cells a b → Kept a b (cell_in a m j)
kept_in a b m j h l = elim (split j (2 * a + 1)) [
  | inl k ↦ subst (Kept a b) (sym (cell_low a m j k)) (kept_low a b m j (elim (split b m) [ inl g ↦ absurd (let d = mul-le-mul_right (pair a) g in omega (arith, d)) | inr g ↦ g ]) k)
  | inr k ↦ subst (Kept a b) (sym (cell_high a m j k)) (kept_high a b m (j - (2 * a + 1)) (elim (split m b) [ inl g ↦ g | inr g ↦ absurd (let d = mul-le-mul_right (pair a) g in omega (arith, d)) ]) (omega arith))
]

pub numbered_kept : (a b n : ℕ) → n < cells a b → Kept a b (numbered a n)
numbered_kept a b n h =
    let z : 0 < pair a = omega arith in
    kept_in a b (n / pair a) (n % pair a) (mod-lt n z) (rw (div-add-mod' n (pair a)) h)

pub cells_by_number : (a b : ℕ) → CellsByNumber a b
cells_by_number a b = (λ q k. (number_below a b q (kept_of a b q k), numbered_number a b q (kept_of a b q k)), λ n h. (of_kept a b (numbered a n) (numbered_kept a b n h), number_numbered a n))

-- ---- half-edges of cells
pub edge_small : (e : Edge) → edge_number e < 6
edge_small bottom = omega arith
edge_small right = omega arith
edge_small down = omega arith
edge_small up = omega arith
edge_small top = omega arith
edge_small left = omega arith

edge_back : (e : Edge) → edge (edge_number e) ≡ e
edge_back bottom = refl
edge_back right = refl
edge_back down = refl
edge_back up = refl
edge_back top = refl
edge_back left = refl

edge_there : (k : ℕ) → k < 6 → edge_number (edge k) ≡ k
edge_there zero h = refl
edge_there (suc zero) h = refl
edge_there (suc (suc zero)) h = refl
edge_there (suc (suc (suc zero))) h = refl
edge_there (suc (suc (suc (suc zero)))) h = refl
edge_there (suc (suc (suc (suc (suc n))))) h = omega arith

code_cell : (n k : ℕ) → k < 6 → (6 * n + k) / 6 ≡ n
code_cell n k h = omega arith

code_edge : (n k : ℕ) → k < 6 → (6 * n + k) % 6 ≡ k
code_edge n k h = omega arith

-- what a definition by cell and edge says at the code of a half-edge of a kept cell
module _ (a b : ℕ) (q : Cell) (k : Kept a b q) (e : Edge) where
  pub code_below : (code a q e).0 < 6 * cells a b
  code_below = omega (arith, number_below a b q k, edge_small e)

  pub at_code : {X : Type 0} (at : Cell → Edge → X) (x : X) → cond (ltb (code a q e).0 (6 * cells a b)) (at (numbered a ((code a q e).0 / 6)) (edge ((code a q e).0 % 6))) x ≡ at q e
  at_code at x =
      let l = code_below in
      let t : ltb (code a q e).0 (6 * cells a b) ≡ true = below_test (code a q e).0 (6 * cells a b) l in
      ap (λ t. cond t (at (numbered a ((code a q e).0 / 6)) (edge ((code a q e).0 % 6))) x) t
      ∙ ap₂ at
      (ap (numbered a) (code_cell (cell_number a q) (edge_number e) (edge_small e)) ∙ numbered_number a b q k)
      (ap edge (code_edge (cell_number a q) (edge_number e) (edge_small e)) ∙ edge_back e)

code_of : (a : ℕ) (h : HalfEdgeId) → code a (numbered a (h.0 / 6)) (edge (h.0 % 6)) ≡ h
code_of a h =
    ap half_edge (ap₂ (λ n k. 6 * n + k) (number_numbered a (h.0 / 6)) (edge_there (h.0 % 6) (omega arith)) ∙ joined h.0)
  where
    joined : (n : ℕ) → 6 * (n / 6) + n % 6 ≡ n
    joined n = omega arith

pub each : (a b : ℕ) (P : HalfEdgeId → Type 0) → ((q : Cell) → Kept a b q → (e : Edge) → P (code a q e)) → (h : HalfEdgeId) → h.0 < 6 * cells a b → P h
each a b P f h l = subst P (code_of a h) (f (numbered a (h.0 / 6)) (numbered_kept a b (h.0 / 6) (sixth h.0 (cells a b) l)) (edge (h.0 % 6)))
  where
    sixth : (n m : ℕ) → n < 6 * m → n / 6 < m
    sixth n m l = omega arith
