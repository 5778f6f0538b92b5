-- All arithmetic on the codes of half-edges.
-- triangle, vertex, half-edge   the id with this number
-- boundary          the code 65,535, written where there is no half-edge
-- leads             what a code across says: 65,535 is boundary, any other code the half-edge of that number
-- side              half-edge k of a triangle: it runs from corner k to corner k + 1, modulo 3, and names corner k too
-- triangle_of       the triangle of a half-edge
-- index             which of its triangle's three half-edges it is: 0, 1 or 2
-- next, previous    the half-edge after it, and before it, in its own triangle
-- mirror_side       the code of the same side where corners 1 and 2 of every triangle are exchanged: side k becomes 2 − k
-- mirror_corner     the code of the same corner there: corner 0 stays, 1 and 2 are exchanged
-- Numbers are not bounded here; the calls of the code say what they answer where a code would not fit.
use Rattle.std.specs.Prelude.{ℕ, ◌+◌, ◌-◌, ◌*◌, ◌/◌, ◌%◌, cond, Some, None, Option, ◌==◌}
use Rattle.base.specs.declared.ids.TriangleId.{TriangleId}
use Rattle.base.specs.declared.ids.VertexId.{VertexId}
use Rattle.base.specs.declared.ids.HalfEdgeId.{HalfEdgeId}

abbrev pub triangle : ℕ → TriangleId
triangle n = record { 0 = n }

abbrev pub vertex : ℕ → VertexId
vertex n = record { 0 = n }

abbrev pub half_edge : ℕ → HalfEdgeId
half_edge n = record { 0 = n }

abbrev pub boundary : HalfEdgeId
boundary = half_edge 65535

abbrev pub leads : HalfEdgeId → Option HalfEdgeId
leads d = cond (d.0 == 65535) None (Some d)

abbrev pub side : TriangleId → ℕ → HalfEdgeId
side t k = half_edge (3 * t.0 + k)

abbrev pub triangle_of : HalfEdgeId → TriangleId
triangle_of h = triangle (h.0 / 3)

abbrev pub index : HalfEdgeId → ℕ
index h = h.0 % 3

abbrev pub next : HalfEdgeId → HalfEdgeId
next h = side (triangle_of h) ((index h + 1) % 3)

abbrev pub previous : HalfEdgeId → HalfEdgeId
previous h = side (triangle_of h) ((index h + 2) % 3)

abbrev pub mirror_side : HalfEdgeId → HalfEdgeId
mirror_side h = side (triangle_of h) (2 - index h)

abbrev pub mirror_corner : HalfEdgeId → HalfEdgeId
mirror_corner h = side (triangle_of h) ((3 - index h) % 3)
