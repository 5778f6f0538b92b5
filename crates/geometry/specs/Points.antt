-- step_value      the step that a step of the code is
-- integer_point, quadratic_point   the point that each kind is
-- integer_row, quadratic_row       the numbers that a row of plain coordinates writes
use Rattle.std.specs.Prelude.{pos}
use Rattle.algebra.specs.Number.{Number, number}
use Rattle.algebra.specs.Plane.{Vec}
use Rattle.coordinates.specs.Values.{value, packed_value}
use Rattle.coordinates.specs.declared.Step.{Step}
use Rattle.geometry.specs.declared.IntegerPoint.{IntegerPoint}
use Rattle.geometry.specs.declared.QuadraticPoint.{QuadraticPoint}
use Rattle.geometry.specs.declared.IntegerRow.{IntegerRow}
use Rattle.geometry.specs.declared.QuadraticRow.{QuadraticRow}
use Rattle.geometry.specs.Plane.{Point, point}

abbrev pub step_value : Step → Vec Number
step_value s = point (value s.dx) (value s.dy)

abbrev pub integer_point : IntegerPoint → Point
integer_point a = point (number a.x (pos 0)) (number a.y (pos 0))

abbrev pub quadratic_point : QuadraticPoint → Point
quadratic_point a = point (packed_value a.x) (packed_value a.y)

abbrev pub integer_row : IntegerRow → Point
integer_row a = point (number a.x (pos 0)) (number a.y (pos 0))

abbrev pub quadratic_row : QuadraticRow → Point
quadratic_row a = point (number a.xp a.xq) (number a.yp a.yq)
