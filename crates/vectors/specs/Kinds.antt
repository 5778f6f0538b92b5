-- Names    the word of a file that names a kind of point
use Rattle.std.specs.Prelude.{◌≡◌, ℕ, List, codes}
use Rattle.described.specs.declared.rows.Kind.{Kind}
use Rattle.described.specs.declared.rows.Kind.TheVariants.{Integer, Quadratic}

abbrev pub Names : List ℕ → Kind → Type 0
Names word Integer = word ≡ codes "whole"
Names word Quadratic = word ≡ codes "lattice"
