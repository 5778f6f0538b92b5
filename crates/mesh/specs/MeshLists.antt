-- meant       the lists that a struct of lists means: a row is the point that it writes
-- surface_of  their surface
use Rattle.std.specs.Prelude.{map}
use Rattle.geometry.specs.Plane.{Point}
use Rattle.mesh.specs.declared.lists.MeshLists.{MeshLists}
use Rattle.mesh.specs.Surface.{Surface}
use Rattle.mesh.specs.Lists.{Lists, lists, listed}

abbrev pub meant : {P R : Type 0} → (R → Point) → MeshLists P R → Lists
meant w m = lists m.triangles (map w m.rows.now) m.corners.now m.across.now

abbrev pub surface_of : {P R : Type 0} → (R → Point) → MeshLists P R → Surface
surface_of w m = listed (meant w m)
