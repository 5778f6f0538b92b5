-- number16    the number that a word writes in decimal digits, a plus before it or not; Is16 says that it writes one of 16 bits
-- number32    the same with a sign; Is32 says that it writes one of 32 bits
-- kind_name   the word that names a kind of point
-- parts       how many numbers a point of a kind has
-- kind_of     the kind of a row
-- numbers     the numbers of a row, in the order in which a line has them
use Rattle.std.specs.Prelude.{ℕ, ◌<◌, ◌^◌, ℤ, List, [], ◌∷◌, FitsSigned, codes}
use Rattle.std.specs.Int.{w32}
use Rattle.std.specs.Str.Parse.{IsNumeral, digits_value, signed_digits_value, without_leading_plus, without_leading_sign}
use Rattle.described.specs.declared.rows.Kind.{Kind}
use Rattle.described.specs.declared.rows.Kind.TheVariants.{Integer, Quadratic}
use Rattle.described.specs.declared.rows.PointRow.{PointRow}
use Rattle.described.specs.declared.rows.PointRow.TheVariants.{Integer as IntegerParts, Quadratic as QuadraticParts}

abbrev pub number16 : List ℕ → ℕ
number16 word = digits_value 10 (without_leading_plus word)

abbrev pub Is16 : List ℕ → Type 0
Is16 word = IsNumeral 10 (without_leading_plus word) × (number16 word < 2 ^ 16)

abbrev pub number32 : List ℕ → ℤ
number32 word = signed_digits_value 10 word

abbrev pub Is32 : List ℕ → Type 0
Is32 word = IsNumeral 10 (without_leading_sign word) × FitsSigned w32 (number32 word)

abbrev pub kind_name : Kind → List ℕ
kind_name Integer = codes "integer"
kind_name Quadratic = codes "quadratic"

abbrev pub parts : Kind → ℕ
parts Integer = 2
parts Quadratic = 4

abbrev pub kind_of : PointRow → Kind
kind_of (IntegerParts row) = Integer
kind_of (QuadraticParts row) = Quadratic

abbrev pub numbers : PointRow → List ℤ
numbers (IntegerParts row) = row.x ∷ row.y ∷ []
numbers (QuadraticParts row) = row.xp ∷ row.xq ∷ row.yp ∷ row.yq ∷ []
