-- Lists       what a mesh is read from: the number of triangles, a point for each vertex, and for each half-edge its corner and its code across
-- listed      the surface of the lists; past the end of a list it answers vertex 0, the origin and boundary
-- Limits      1 to 4,096 triangles, 3 to 8,192 vertices, three corners and three codes across for each triangle
-- InRange     the coordinates of a vertex lie from −10,000 to 10,000
use Rattle.std.specs.Prelude.{◌≡◌, ℕ, ◌*◌, ◌≤◌, List, length, None, slice_index_or}
use Rattle.base.specs.declared.ids.VertexId.{VertexId}
use Rattle.base.specs.declared.ids.HalfEdgeId.{HalfEdgeId}
use Rattle.base.specs.Ids.{vertex, boundary, leads}
use Rattle.geometry.specs.Plane.{Point, origin}
use Rattle.geometry.specs.Ranges.{point_refusal}
use Rattle.mesh.specs.Surface.{Surface}

pub record Lists : Type 0 where
  pub triangles : ℕ
  pub points : List Point
  pub corners : List VertexId
  pub across : List HalfEdgeId

abbrev pub lists : ℕ → List Point → List VertexId → List HalfEdgeId → Lists
lists n ps cs ds = record { triangles = n; points = ps; corners = cs; across = ds }

abbrev pub listed : Lists → Surface
listed l = record {
  F = l.triangles;
  V = length l.points;
  corner = λ h. slice_index_or l.corners h.0 (vertex 0);
  point = λ v. slice_index_or l.points v.0 origin;
  twin = λ h. leads (slice_index_or l.across h.0 boundary);
}

pub record Limits (l : Lists) : Type 0 where
  pub some_triangles : 1 ≤ l.triangles
  pub few_triangles : l.triangles ≤ 4096
  pub some_vertices : 3 ≤ length l.points
  pub few_vertices : length l.points ≤ 8192
  pub all_corners : length l.corners ≡ 3 * l.triangles
  pub all_sides : length l.across ≡ 3 * l.triangles

abbrev pub InRange : Lists → VertexId → Type 0
InRange l v = point_refusal ((listed l).point v) ≡ None
