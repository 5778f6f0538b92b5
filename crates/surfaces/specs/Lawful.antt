-- Lawful      what every mesh owes: its surface is sound, answers fixed values past its end, and has at most 4,096 triangles and 8,192 vertices
-- Vetted      what an indexed mesh knows of its lists: they keep the limits from above, all coordinates are in range, and their surface is sound
-- no_lists    lists with nothing in them: no triangle, no vertex
-- Holds       what a mesh made of given lists holds: exactly these if they are accepted, and nothing otherwise
-- CornersOf   an array holds the vertices at the three corners of a triangle
-- Alike       two surfaces say the same at every half-edge and every vertex
use Rattle.std.specs.Prelude.{◌≡◌, ◌*◌, ◌<◌, ◌≤◌, List, [], length, slice_index_or}
use Rattle.base.specs.declared.ids.TriangleId.{TriangleId}
use Rattle.base.specs.declared.ids.VertexId.{VertexId}
use Rattle.base.specs.declared.ids.HalfEdgeId.{HalfEdgeId}
use Rattle.base.specs.Ids.{vertex, side}
use Rattle.mesh.specs.Surface.{Surface, Ended}
use Rattle.mesh.specs.Sound.{Sound}
use Rattle.mesh.specs.Lists.{Lists, lists, listed, InRange}
use Rattle.mesh.specs.Verdict.{Accepted}

pub record Lawful (f : Surface) : Type 0 where
  pub sound : Sound f
  pub ended : Ended f
  pub few_triangles : f.F ≤ 4096
  pub few_vertices : f.V ≤ 8192

pub record Vetted (l : Lists) : Type 0 where
  pub few_triangles : l.triangles ≤ 4096
  pub few_vertices : length l.points ≤ 8192
  pub all_corners : length l.corners ≡ 3 * l.triangles
  pub all_sides : length l.across ≡ 3 * l.triangles
  pub ranges : (v : VertexId) → v.0 < length l.points → InRange l v
  pub sound : Sound (listed l)

abbrev pub no_lists : Lists
no_lists = lists 0 [] [] []

pub record Holds (given held : Lists) : Type 0 where
  pub accepted : Accepted given → held ≡ given
  pub refused : (Accepted given → ⊥) → held ≡ no_lists

pub record CornersOf (f : Surface) (t : TriangleId) (vs : List VertexId) : Type 0 where
  pub first : slice_index_or vs 0 (vertex 0) ≡ f.corner (side t 0)
  pub second : slice_index_or vs 1 (vertex 0) ≡ f.corner (side t 1)
  pub third : slice_index_or vs 2 (vertex 0) ≡ f.corner (side t 2)

pub record Alike (f g : Surface) : Type 0 where
  pub triangles : f.F ≡ g.F
  pub vertices : f.V ≡ g.V
  pub corner : (h : HalfEdgeId) → f.corner h ≡ g.corner h
  pub point : (v : VertexId) → f.point v ≡ g.point v
  pub twin : (h : HalfEdgeId) → f.twin h ≡ g.twin h
