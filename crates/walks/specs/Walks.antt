-- A crossing leaves a triangle by one of its half-edges and enters the next triangle by the twin.
-- Walk         the crossings lead from a triangle to a triangle, each out of the triangle that the one before it entered
-- arrival      the triangle in which a walk ends
-- way_back     the crossings of a walk in reverse order, each crossed back
-- vertex_at    the vertex at a corner, with its number and its point
-- portal_of    the portal of a crossing, as whoever crosses it has it: on the left the corner after the half-edge left, on the right its own corner
-- portals      the portals of a walk
-- Inside       a point lies strictly inside a triangle: it lies to the left of all three sides
-- Joins        a walk without spurs that leads from a terminal to a terminal, each strictly inside its triangle
-- TautOf       the bends are a taut string of the walk from one terminal to the other
use Rattle.std.specs.Prelude.{◌≡◌, ◌<◌, List, [], ◌∷◌, map, reverse, Some}
use Rattle.base.specs.declared.ids.TriangleId.{TriangleId}
use Rattle.base.specs.declared.ids.HalfEdgeId.{HalfEdgeId}
use Rattle.base.specs.Ids.{side, triangle_of, next}
use Rattle.algebra.specs.Number.{Number, quadratics}
use Rattle.geometry.specs.declared.Turn.TheVariants.{Left}
use Rattle.geometry.specs.Plane.{Point, turn}
use Rattle.words.specs.declared.sorts.Crossing.{Crossing}
use Rattle.words.specs.Sorts.{recrossed}
use Rattle.words.specs.Words.{Reduced}
use Rattle.taut.specs.Sleeve.{Vertex, Portal}
use Rattle.taut.specs.TautString.{Bend, TautString}
use Rattle.mesh.specs.Surface.{Surface, spot}

abbrev pub Walk : Surface → TriangleId → List Crossing → TriangleId → Type 0
Walk f t [] u = t ≡ u
Walk f t (c ∷ w) u = (triangle_of c.left ≡ t) × (f.twin c.left ≡ Some c.entered) × Walk f (triangle_of c.entered) w u

abbrev pub arrival : TriangleId → List Crossing → TriangleId
arrival t [] = t
arrival t (c ∷ w) = arrival (triangle_of c.entered) w

abbrev pub way_back : List Crossing → List Crossing
way_back w = reverse (map recrossed w)

abbrev pub vertex_at : Surface → HalfEdgeId → Vertex Number
vertex_at f h = record { number = (f.corner h).0; point = spot f h }

abbrev pub portal_of : Surface → Crossing → Portal Number
portal_of f c = record { left = vertex_at f (next c.left); right = vertex_at f c.left }

abbrev pub portals : Surface → List Crossing → List (Portal Number)
portals f [] = []
portals f (c ∷ w) = portal_of f c ∷ portals f w

pub record Inside (f : Surface) (t : TriangleId) (p : Point) : Type 0 where
  pub first : turn (spot f (side t 0)) (spot f (side t 1)) p ≡ Left
  pub second : turn (spot f (side t 1)) (spot f (side t 2)) p ≡ Left
  pub third : turn (spot f (side t 2)) (spot f (side t 0)) p ≡ Left

pub record Joins (f : Surface) (t : TriangleId) (s : Point) (w : List Crossing) (u : TriangleId) (e : Point) : Type 0 where
  pub within : t.0 < f.F
  pub start : Inside f t s
  pub walk : Walk f t w u
  pub finish : Inside f u e
  pub reduced : Reduced recrossed w

abbrev pub TautOf : Surface → Point → List Crossing → Point → List (Bend Number) → Type 0
TautOf f s w e bs = TautString quadratics s (portals f w) e bs
