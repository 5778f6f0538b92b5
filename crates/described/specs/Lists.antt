-- kind_of_all    the kind of the vertices
-- points         the points that rows of coordinates write
-- placed         the point of a row among vertices of a kind: none if the row is of the other kind
-- as_mesh        the lists that are described, as a mesh of the triangles that they claim
-- AddsTriangle   the corners and the codes of a row stand behind the others, and one triangle more is claimed
use Rattle.std.specs.Prelude.{◌≡◌, ◌+◌, List, [], ◌∷◌, ◌++◌, map, min}
use Rattle.geometry.specs.Plane.{Point}
use Rattle.geometry.specs.Points.{integer_row, quadratic_row}
use Rattle.mesh.specs.Lists.{Lists as MeshLists, lists}
use Rattle.described.specs.declared.rows.Kind.{Kind}
use Rattle.described.specs.declared.rows.Kind.TheVariants.{Integer, Quadratic}
use Rattle.described.specs.declared.rows.PointRow.{PointRow}
use Rattle.described.specs.declared.rows.PointRow.TheVariants.{Integer as IntegerParts, Quadratic as QuadraticParts}
use Rattle.described.specs.declared.rows.TriangleRow.{TriangleRow}
use Rattle.described.specs.declared.lists.Vertices.{Vertices}
use Rattle.described.specs.declared.lists.Vertices.TheVariants.{Integer as IntegerVertices, Quadratic as QuadraticVertices}
use Rattle.described.specs.declared.lists.Described.{Described}

abbrev pub kind_of_all : Vertices → Kind
kind_of_all (IntegerVertices rows) = Integer
kind_of_all (QuadraticVertices rows) = Quadratic

abbrev pub points : Vertices → List Point
points (IntegerVertices rows) = map integer_row rows.items
points (QuadraticVertices rows) = map quadratic_row rows.items

abbrev pub placed : Kind → PointRow → List Point
placed Integer (IntegerParts row) = integer_row row ∷ []
placed Integer (QuadraticParts row) = []
placed Quadratic (IntegerParts row) = []
placed Quadratic (QuadraticParts row) = quadratic_row row ∷ []

abbrev pub as_mesh : Described → MeshLists
as_mesh d = lists d.triangles (points d.vertices) d.corners.items d.across.items

pub record AddsTriangle (row : TriangleRow) (old new : Described) : Type 0 where
  pub triangles : new.triangles ≡ min (old.triangles + 1) 18446744073709551615
  pub corners : new.corners.items ≡ old.corners.items ++ row.corners
  pub across : new.across.items ≡ old.across.items ++ row.across
