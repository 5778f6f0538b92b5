-- Points of the sheet: a half-edge of a kept cell begins at the grid point of its column and row, and runs one pitch along, up, or both.
-- Hence every triangle turns left, and rays that follow one another round a vertex are in order.
use Rattle.std.proofs.Common.{◌≡◌, ℕ, ◌+◌, ◌*◌, ◌/◌, ◌%◌, ◌<◌, cond, pos, sym, refl, ap, ◌∙◌, subst, ap₂, mul_comm, arith}
use lib.Arith.{digits_div, digits_mod, digits_lt}
use Rattle.std.proofs.lemmas.Int.{ints}
use Rattle.base.specs.Ids.{next, previous}
use Rattle.algebra.specs.Arithmetic.{Ops}
use Rattle.algebra.specs.Number.{Number, number, ◌⊕◌, ◌⊛◌, minus, zero as nought, Positive, neither, quadratic_ops}
use Rattle.algebra.specs.Plane.{Vec, cross, ◌⊗◌}
use Rattle.algebra.proofs.RingSolver.{CommRing, ring, ◌:-◌, ◌:*◌, :-◌, ◌:=◌, E}
use Rattle.algebra.proofs.OrderedRing.{base, pos_eq, pos_mul}
use Rattle.algebra.proofs.Quadratics.{quadratic_ring}
use Rattle.geometry.specs.Plane.{Point, point, origin, step, turn}
use Rattle.geometry.specs.declared.Turn.TheVariants.{Left}
use Rattle.mesh.specs.Surface.{Surface, spot}
use Rattle.surfaces.specs.Sheet.{Cell, Edge, bottom, right, down, up, top, left, code, corner_column, corner_row, grid_vertex, grid_point, width, sheet}
use Rattle.surfaces.proofs.Turns.{◌⋀◌, pos_left}
use Rattle.surfaces.proofs.SheetCells.{Kept, below_test}
use Rattle.surfaces.proofs.SheetTwins.{after, before, next_code, previous_code, corner_at}

-- the rays round a vertex, counterclockwise
abbrev pub onward : Edge → Edge
onward bottom = up
onward up = right
onward right = top
onward top = down
onward down = left
onward left = bottom

-- the step along a half-edge, at the pitch u
abbrev pub way : {A : Type 0} → Ops A → A → Edge → Vec A
way O u bottom = record { x = u; y = O.nil }
way O u up = record { x = u; y = u }
way O u right = record { x = O.nil; y = u }
way O u top = record { x = O.neg u; y = O.nil }
way O u down = record { x = O.neg u; y = O.neg u }
way O u left = record { x = O.nil; y = O.neg u }

abbrev pub pitch : ℕ → Number
pitch g = number (pos g) (pos 0)

abbrev pub along : ℕ → Edge → Vec Number
along g e = way quadratic_ops (pitch g) e

abbrev R : CommRing
R = base quadratic_ring

one_on : (u : Number) (e : Edge) → way quadratic_ops u e ⋀ way quadratic_ops u (onward e) ≡ u ⊛ u
unfolding ◌⊗◌
one_on u bottom = ring R 1 (λ u. cross E (way E u bottom) (way E u up) := u :* u) refl u
one_on u up = ring R 1 (λ u. cross E (way E u up) (way E u right) := u :* u) refl u
one_on u right = ring R 1 (λ u. cross E (way E u right) (way E u top) := u :* u) refl u
one_on u top = ring R 1 (λ u. cross E (way E u top) (way E u down) := u :* u) refl u
one_on u down = ring R 1 (λ u. cross E (way E u down) (way E u left) := u :* u) refl u
one_on u left = ring R 1 (λ u. cross E (way E u left) (way E u bottom) := u :* u) refl u

one_back : (u : Number) (e : Edge) → minus (way quadratic_ops u (onward e) ⋀ way quadratic_ops u e) ≡ u ⊛ u
unfolding ◌⊗◌
one_back u bottom = ring R 1 (λ u. :- (cross E (way E u up) (way E u bottom)) := u :* u) refl u
one_back u up = ring R 1 (λ u. :- (cross E (way E u right) (way E u up)) := u :* u) refl u
one_back u right = ring R 1 (λ u. :- (cross E (way E u top) (way E u right)) := u :* u) refl u
one_back u top = ring R 1 (λ u. :- (cross E (way E u down) (way E u top)) := u :* u) refl u
one_back u down = ring R 1 (λ u. :- (cross E (way E u left) (way E u down)) := u :* u) refl u
one_back u left = ring R 1 (λ u. :- (cross E (way E u bottom) (way E u left)) := u :* u) refl u

two_back : (u : Number) (e : Edge) → minus (way quadratic_ops u (onward (onward e)) ⋀ way quadratic_ops u e) ≡ u ⊛ u
unfolding ◌⊗◌
two_back u bottom = ring R 1 (λ u. :- (cross E (way E u right) (way E u bottom)) := u :* u) refl u
two_back u up = ring R 1 (λ u. :- (cross E (way E u top) (way E u up)) := u :* u) refl u
two_back u right = ring R 1 (λ u. :- (cross E (way E u down) (way E u right)) := u :* u) refl u
two_back u top = ring R 1 (λ u. :- (cross E (way E u left) (way E u top)) := u :* u) refl u
two_back u down = ring R 1 (λ u. :- (cross E (way E u bottom) (way E u down)) := u :* u) refl u
two_back u left = ring R 1 (λ u. :- (cross E (way E u up) (way E u left)) := u :* u) refl u

four_on : (u : Number) (e : Edge) → minus (way quadratic_ops u e ⋀ way quadratic_ops u (onward (onward (onward (onward e))))) ≡ u ⊛ u
unfolding ◌⊗◌
four_on u bottom = ring R 1 (λ u. :- (cross E (way E u bottom) (way E u down)) := u :* u) refl u
four_on u up = ring R 1 (λ u. :- (cross E (way E u up) (way E u left)) := u :* u) refl u
four_on u right = ring R 1 (λ u. :- (cross E (way E u right) (way E u bottom)) := u :* u) refl u
four_on u top = ring R 1 (λ u. :- (cross E (way E u top) (way E u up)) := u :* u) refl u
four_on u down = ring R 1 (λ u. :- (cross E (way E u down) (way E u right)) := u :* u) refl u
four_on u left = ring R 1 (λ u. :- (cross E (way E u left) (way E u top)) := u :* u) refl u

five_on : (u : Number) (e : Edge) → minus (way quadratic_ops u e ⋀ way quadratic_ops u (onward (onward (onward (onward (onward e)))))) ≡ u ⊛ u
unfolding ◌⊗◌
five_on u bottom = ring R 1 (λ u. :- (cross E (way E u bottom) (way E u left)) := u :* u) refl u
five_on u up = ring R 1 (λ u. :- (cross E (way E u up) (way E u bottom)) := u :* u) refl u
five_on u right = ring R 1 (λ u. :- (cross E (way E u right) (way E u up)) := u :* u) refl u
five_on u top = ring R 1 (λ u. :- (cross E (way E u top) (way E u right)) := u :* u) refl u
five_on u down = ring R 1 (λ u. :- (cross E (way E u down) (way E u top)) := u :* u) refl u
five_on u left = ring R 1 (λ u. :- (cross E (way E u left) (way E u down)) := u :* u) refl u

pitch_positive : (g : ℕ) → 0 < g → Positive (pitch g)
pitch_positive g h = neither (omega (arith, ints)) (omega (arith, ints)) (λ z. omega (arith, ints, z.0))

module _ (g : ℕ) (wide : 0 < g) where
  area : Positive (pitch g ⊛ pitch g)
  area = pos_mul quadratic_ring (pitch_positive g wide) (pitch_positive g wide)

  pub turns_on : (e : Edge) → Positive (along g e ⋀ along g (onward e))
  turns_on e = pos_eq quadratic_ring (sym (one_on (pitch g) e)) area

  pub one_behind : (e : Edge) → Positive (minus (along g (onward e) ⋀ along g e))
  one_behind e = pos_eq quadratic_ring (sym (one_back (pitch g) e)) area

  pub two_behind : (e : Edge) → Positive (minus (along g (onward (onward e)) ⋀ along g e))
  two_behind e = pos_eq quadratic_ring (sym (two_back (pitch g) e)) area

  pub four_ahead : (e : Edge) → Positive (minus (along g e ⋀ along g (onward (onward (onward (onward e))))))
  four_ahead e = pos_eq quadratic_ring (sym (four_on (pitch g) e)) area

  pub five_ahead : (e : Edge) → Positive (minus (along g e ⋀ along g (onward (onward (onward (onward (onward e)))))))
  five_ahead e = pos_eq quadratic_ring (sym (five_on (pitch g) e)) area

-- ---- steps between grid points
stays : (c g : ℕ) → number (pos (c * g)) (pos 0) ⊕ minus (number (pos (c * g)) (pos 0)) ≡ nought
stays c g = ap (λ z. number z (pos 0)) (omega (arith, ints))

forth : (c g : ℕ) → number (pos ((c + 1) * g)) (pos 0) ⊕ minus (number (pos (c * g)) (pos 0)) ≡ pitch g
forth c g = ap (λ z. number z (pos 0)) (omega (arith, ints))

aback : (c g : ℕ) → number (pos (c * g)) (pos 0) ⊕ minus (number (pos ((c + 1) * g)) (pos 0)) ≡ minus (pitch g)
aback c g = ap (λ z. number z (pos 0)) (omega (arith, ints))

step_by : {x y x' y' : Number} → x ≡ x' → y ≡ y' → point x y ≡ point x' y'
step_by e f = λ i. point (e i) (f i)

abbrev pub corner_point : ℕ → Cell → Edge → Point
corner_point g q e = grid_point g (corner_column q e) (corner_row q e)

pub step_after : (g : ℕ) (q : Cell) (e : Edge) → step (corner_point g q e) (corner_point g q (after e)) ≡ along g e
step_after g q bottom = step_by (forth q.column g) (stays q.row g)
step_after g q right = step_by (stays (q.column + 1) g) (forth q.row g)
step_after g q down = step_by (aback q.column g) (aback q.row g)
step_after g q up = step_by (forth q.column g) (forth q.row g)
step_after g q top = step_by (aback q.column g) (stays (q.row + 1) g)
step_after g q left = step_by (stays q.column g) (aback q.row g)

pub step_before : (g : ℕ) (q : Cell) (e : Edge) → step (corner_point g q e) (corner_point g q (before e)) ≡ along g (onward e)
step_before g q bottom = step_by (forth q.column g) (forth q.row g)
step_before g q right = step_by (aback q.column g) (stays q.row g)
step_before g q down = step_by (stays (q.column + 1) g) (aback q.row g)
step_before g q up = step_by (stays q.column g) (forth q.row g)
step_before g q top = step_by (aback q.column g) (aback q.row g)
step_before g q left = step_by (forth q.column g) (stays (q.row + 1) g)

-- ---- the points of the surface
pub column_below : (a b : ℕ) (q : Cell) → Kept a b q → (e : Edge) → corner_column q e < width a
column_below a b q k bottom = omega (arith, k.columns)
column_below a b q k right = omega (arith, k.columns)
column_below a b q k down = omega (arith, k.columns)
column_below a b q k up = omega (arith, k.columns)
column_below a b q k top = omega (arith, k.columns)
column_below a b q k left = omega (arith, k.columns)

row_below : (a b : ℕ) (q : Cell) → Kept a b q → (e : Edge) → corner_row q e < width b
row_below a b q k bottom = omega (arith, k.rows)
row_below a b q k right = omega (arith, k.rows)
row_below a b q k down = omega (arith, k.rows)
row_below a b q k up = omega (arith, k.rows)
row_below a b q k top = omega (arith, k.rows)
row_below a b q k left = omega (arith, k.rows)

vertex_below : (a b c r : ℕ) → c < width a → r < width b → r * width a + c < width a * width b
vertex_below a b c r h k = subst (λ n. r * width a + c < n) (mul_comm (width b) (width a)) (digits_lt {q = r} {m = width b} {r = c} {c = width a} k h)

module _ (a b g : ℕ) where
  abbrev f : Surface
  f = sheet a b g

  pub corner_fits : (q : Cell) → Kept a b q → (e : Edge) → (f.corner (code a q e)).0 < f.V
  corner_fits q k e = subst (λ v. v.0 < f.V) (sym (corner_at a b g q k e)) (vertex_below a b (corner_column q e) (corner_row q e) (column_below a b q k e) (row_below a b q k e))

  point_at : (c r : ℕ) → c < width a → r < width b → f.point (grid_vertex a c r) ≡ grid_point g c r
  point_at c r h k =
      ap (λ t. cond t (grid_point g ((r * width a + c) % width a) ((r * width a + c) / width a)) origin) (below_test (r * width a + c) (width a * width b) (vertex_below a b c r h k))
      ∙ ap₂ (grid_point g) (digits_mod r h) (digits_div r h)

  pub spot_at : (q : Cell) → Kept a b q → (e : Edge) → spot f (code a q e) ≡ corner_point g q e
  spot_at q k e = ap f.point (corner_at a b g q k e) ∙ point_at (corner_column q e) (corner_row q e) (column_below a b q k e) (row_below a b q k e)

  pub step_next : (q : Cell) → Kept a b q → (e : Edge) → step (spot f (code a q e)) (spot f (next (code a q e))) ≡ along g e
  step_next q k e = ap₂ step (spot_at q k e) (ap (spot f) (next_code a q e) ∙ spot_at q k (after e)) ∙ step_after g q e

  pub step_previous : (q : Cell) → Kept a b q → (e : Edge) → step (spot f (code a q e)) (spot f (previous (code a q e))) ≡ along g (onward e)
  step_previous q k e = ap₂ step (spot_at q k e) (ap (spot f) (previous_code a q e) ∙ spot_at q k (before e)) ∙ step_before g q e

  pub left_at : 0 < g → (q : Cell) → Kept a b q → (e : Edge) → turn (spot f (code a q e)) (spot f (next (code a q e))) (spot f (previous (code a q e))) ≡ Left
  left_at wide q k e =
      pos_left (spot f (code a q e)) (spot f (next (code a q e))) (spot f (previous (code a q e)))
      (pos_eq quadratic_ring (sym (ap₂ ◌⋀◌ (step_next q k e) (step_previous q k e))) (turns_on g wide e))
