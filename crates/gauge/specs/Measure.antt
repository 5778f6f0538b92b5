-- Form          a linear form (f, h): its value at a step (dx, dy) is f·dx + h·dy
-- at            that value
-- larger        the larger of two numbers
-- measure       the largest value of a row of forms at a step
-- span          what the pieces of a row of points measure together, from a first point on
-- length_of     the same for a whole row; a row of fewer than two points measures 0
-- Among         a form stands in a row
-- Lawful        what makes a row of forms a gauge: small parts, the opposite of each form, two that are not parallel
use Rattle.std.specs.Prelude.{◌≡◌, ◌⊎◌, List, [], ◌∷◌, ◌≢◌}
use Rattle.algebra.specs.Bounds.{Within}
use Rattle.algebra.specs.Number.{Number, zero, minus, sign, ◌⊕◌, ◌⊖◌, quadratic_ops}
use Rattle.algebra.specs.Plane.{Vec, dot, cross}
use Rattle.algebra.specs.declared.Sign.{Sign}
use Rattle.algebra.specs.declared.Sign.TheVariants.{Minus, Zero, Plus}
use Rattle.geometry.specs.Plane.{Point, point, step}

abbrev pub Form : Type 0
Form = Vec Number

abbrev pub at : Form → Vec Number → Number
at f v = dot quadratic_ops f v

abbrev pub choose : Sign → Number → Number → Number
choose Plus a b = a
choose Zero a b = b
choose Minus a b = b

abbrev pub larger : Number → Number → Number
larger a b = choose (sign (a ⊖ b)) a b

-- the largest of a number and the values of the forms
abbrev pub top : Number → List Form → Vec Number → Number
top best [] v = best
top best (f ∷ fs) v = top (larger (at f v) best) fs v

abbrev pub measure : List Form → Vec Number → Number
measure [] v = zero
measure (f ∷ fs) v = top (at f v) fs v

abbrev pub span : List Form → Point → List Point → Number
span fs a [] = zero
span fs a (b ∷ bs) = measure fs (step a b) ⊕ span fs b bs

abbrev pub length_of : List Form → List Point → Number
length_of fs [] = zero
length_of fs (a ∷ bs) = span fs a bs

abbrev pub Among : Form → List Form → Type 0
Among f [] = ⊥
Among f (g ∷ fs) = (f ≡ g) ⊎ Among f fs

abbrev pub opposite : Form → Form
opposite f = point (minus f.x) (minus f.y)

abbrev pub Small : Form → Type 0
Small f = Within 4 f.x.p × Within 4 f.x.q × Within 4 f.y.p × Within 4 f.y.q

pub record Lawful (fs : List Form) : Type 0 where
  pub small : (f : Form) → Among f fs → Small f
  pub opposites : (f : Form) → Among f fs → Among (opposite f) fs
  pub skew : (f : Form) × (g : Form) × Among f fs × Among g fs × (cross quadratic_ops f g ≢ zero)
