-- form_value       the form that a linear form of the code is
-- l1_forms         (±1, ±1)
-- maximum_forms    (±1, 0) and (0, ±1)
-- octagon_forms    (√2, 0), (1, 1), (0, √2), (−1, 1) and their opposites
-- length_value     the number that a length of the code is
use Rattle.std.specs.Prelude.{List, [], ◌∷◌, pos, negsuc}
use Rattle.algebra.specs.Number.{Number, number}
use Rattle.geometry.specs.Plane.{point}
use Rattle.gauge.specs.declared.LinearForm.{LinearForm}
use Rattle.gauge.specs.declared.Length.{Length}
use Rattle.gauge.specs.Measure.{Form}

abbrev pub form_value : LinearForm → Form
form_value a = point (number a.fp a.fq) (number a.hp a.hq)

abbrev pub length_value : Length → Number
length_value a = number a.p a.q

abbrev pub nought : Number
nought = number (pos 0) (pos 0)

abbrev pub unit : Number
unit = number (pos 1) (pos 0)

abbrev pub back : Number
back = number (negsuc 0) (pos 0)

abbrev pub root : Number
root = number (pos 0) (pos 1)

abbrev pub root_back : Number
root_back = number (pos 0) (negsuc 0)

abbrev pub l1_forms : List Form
l1_forms = point unit unit ∷ point unit back ∷ point back unit ∷ point back back ∷ []

abbrev pub maximum_forms : List Form
maximum_forms = point unit nought ∷ point back nought ∷ point nought unit ∷ point nought back ∷ []

abbrev pub octagon_forms : List Form
octagon_forms =
    point root nought ∷ point unit unit ∷ point nought root ∷ point back unit
    ∷ point root_back nought ∷ point back back ∷ point nought root_back ∷ point unit back ∷ []
