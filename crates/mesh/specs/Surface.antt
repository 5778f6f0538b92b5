-- Surface     what a mesh means: F triangles, V vertices, the vertex at each corner, the point of each vertex, the twin of each side
-- Has         a half-edge is one of the surface's: its triangle is one of the F
-- spot        the point at a corner
-- triangle_turn   the way in which the three corners of a triangle turn
-- Ended       past the end the surface answers vertex 0, the origin and boundary
-- Twins       two sides are the two halves of one edge: each leads to the other, and they share their ends crosswise
-- on          the corner that follows in the fan of a corner: across the side that runs into the corner
-- Later       a corner follows another in its fan, one or more corners on
-- Opens       the fan of a corner is open: going back, across the side that leaves the corner, reaches boundary
-- Ends        the other way: going on from a corner reaches boundary too
-- Covers      of the first corner of a fan and a later one: the first ray lies in the later triangle's sector at the vertex, its ends included
-- A fan is seen from its vertex: the triangles follow one another counterclockwise, and a corner h has the rays to the corners next h and previous h.
use Rattle.std.specs.Prelude.{◌≡◌, ℕ, ◌*◌, ◌<◌, ◌≤◌, Some, None, Option}
use Rattle.base.specs.declared.ids.TriangleId.{TriangleId}
use Rattle.base.specs.declared.ids.VertexId.{VertexId}
use Rattle.base.specs.declared.ids.HalfEdgeId.{HalfEdgeId}
use Rattle.base.specs.Ids.{vertex, side, next, previous}
use Rattle.geometry.specs.Plane.{Point, origin, turn}
use Rattle.geometry.specs.declared.Turn.{Turn}
use Rattle.geometry.specs.declared.Turn.TheVariants.{Right}

pub record Surface : Type 0 where
  pub F : ℕ
  pub V : ℕ
  pub corner : HalfEdgeId → VertexId
  pub point : VertexId → Point
  pub twin : HalfEdgeId → Option HalfEdgeId

abbrev pub Has : Surface → HalfEdgeId → Type 0
Has f h = h.0 < 3 * f.F

abbrev pub spot : Surface → HalfEdgeId → Point
spot f h = f.point (f.corner h)

abbrev pub triangle_turn : Surface → TriangleId → Turn
triangle_turn f t = turn (spot f (side t 0)) (spot f (side t 1)) (spot f (side t 2))

pub record Ended (f : Surface) : Type 0 where
  pub no_corner : (h : HalfEdgeId) → 3 * f.F ≤ h.0 → f.corner h ≡ vertex 0
  pub no_point : (v : VertexId) → f.V ≤ v.0 → f.point v ≡ origin
  pub no_twin : (h : HalfEdgeId) → 3 * f.F ≤ h.0 → f.twin h ≡ None

pub record Twins (f : Surface) (h d : HalfEdgeId) : Type 0 where
  pub within : Has f d
  pub back : f.twin d ≡ Some h
  pub from : f.corner h ≡ f.corner (next d)
  pub to : f.corner (next h) ≡ f.corner d

abbrev pub on : Surface → HalfEdgeId → Option HalfEdgeId
on f h = f.twin (previous h)

pub data Later (f : Surface) (s : HalfEdgeId) : HalfEdgeId → Type 0 where
  one : {h : HalfEdgeId} → on f s ≡ Some h → Later f s h
  more : {g h : HalfEdgeId} → Later f s g → on f g ≡ Some h → Later f s h

pub data Opens (f : Surface) : HalfEdgeId → Type 0 where
  edge : {h : HalfEdgeId} → f.twin h ≡ None → Opens f h
  across : {h d : HalfEdgeId} → f.twin h ≡ Some d → Opens f (next d) → Opens f h

pub data Ends (f : Surface) : HalfEdgeId → Type 0 where
  edge_ahead : {h : HalfEdgeId} → on f h ≡ None → Ends f h
  ahead : {h d : HalfEdgeId} → on f h ≡ Some d → Ends f d → Ends f h

abbrev pub NotRight : Turn → Type 0
NotRight t = t ≡ Right → ⊥

abbrev pub Covers : Surface → HalfEdgeId → HalfEdgeId → Type 0
Covers f s h =
    NotRight (turn (spot f h) (spot f (next h)) (spot f (next s)))
    × NotRight (turn (spot f h) (spot f (next s)) (spot f (previous h)))
