-- Point        two coordinates p + q√2
-- origin       both coordinates 0
-- step         the step from a point to a point: the differences in x and y
-- doubled_area     of a, b, c: (b − a) × (c − a)
-- turn         of a, b, c: left, straight or right as doubled_area is positive, zero or negative
-- mirror       the point with the sign of x changed
use Rattle.algebra.specs.Number.{Number, zero, minus, sign, quadratic_ops}
use Rattle.algebra.specs.Plane.{Vec, less, cross}
use Rattle.algebra.specs.declared.Sign.{Sign}
use Rattle.algebra.specs.declared.Sign.TheVariants.{Minus, Zero, Plus}
use Rattle.geometry.specs.declared.Turn.{Turn}
use Rattle.geometry.specs.declared.Turn.TheVariants.{Left, Straight, Right}

abbrev pub Point : Type 0
Point = Vec Number

abbrev pub point : Number → Number → Point
point a b = record { x = a; y = b }

abbrev pub origin : Point
origin = point zero zero

abbrev pub step : Point → Point → Vec Number
step a b = less quadratic_ops b a

abbrev pub doubled_area : Point → Point → Point → Number
doubled_area a b c = cross quadratic_ops (step a b) (step a c)

abbrev pub turn_by : Sign → Turn
turn_by Plus = Left
turn_by Zero = Straight
turn_by Minus = Right

abbrev pub turn : Point → Point → Point → Turn
turn a b c = turn_by (sign (doubled_area a b c))

abbrev pub mirror : Point → Point
mirror a = point (minus a.x) a.y
