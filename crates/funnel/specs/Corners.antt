-- vertex_meant   the vertex that a corner of the code is, by the points of its kind
-- portal_meant   the portal that a portal of the code is
-- bend_point     where a bend of the code lies on a surface
-- bend_meant     the bend that a bend of the code is on a surface
-- Roomy          a length to which a piece may be added
use Rattle.algebra.specs.Bounds.{Within}
use Rattle.algebra.specs.Number.{Number}
use Rattle.geometry.specs.Plane.{Point}
use Rattle.gauge.specs.declared.Length.{Length}
use Rattle.mesh.specs.Surface.{Surface}
use Rattle.taut.specs.Sleeve.{Vertex, Portal as Passage}
use Rattle.taut.specs.TautString.{Bend as Turning}
use Rattle.funnel.specs.declared.Corner.{Corner}
use Rattle.funnel.specs.declared.Portal.{Portal}
use Rattle.funnel.specs.declared.Bend.{Bend}

module _ {P : Type 0} (at : P → Point) where
  abbrev pub vertex_meant : Corner P → Vertex Number
  vertex_meant c = record { number = c.vertex.0; point = at c.point }

  abbrev pub portal_meant : Portal P → Passage Number
  portal_meant p = record { left = vertex_meant p.left; right = vertex_meant p.right }

abbrev pub bend_point : Surface → Bend → Point
bend_point f b = f.point b.vertex

abbrev pub bend_meant : Surface → Bend → Turning Number
bend_meant f b = record { side = b.side; vertex = record { number = b.vertex.0; point = bend_point f b } }

abbrev pub Roomy : Length → Type 0
Roomy l = Within 100000000000000000000000000000000000000 l.p × Within 100000000000000000000000000000000000000 l.q
