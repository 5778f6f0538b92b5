-- written    p + q√2 as text; a part that is 0 is left out, unless both are
use Rattle.std.specs.Prelude.{ℕ, ℤ, pos, cond, List, [], ◌∷◌, ◌++◌, codes, int_lt, unsigned_abs}
use Rattle.std.specs.Fmt.{decimal, signed_decimal}
use Rattle.std.specs.Ordering.{int_eq}

-- the bytes of √2
abbrev pub root_two : List ℕ
root_two = 226 ∷ 136 ∷ 154 ∷ 50 ∷ []

abbrev pub written : ℤ → ℤ → List ℕ
written p q =
    cond (int_eq q (pos 0)) (signed_decimal p)
    (cond (int_eq p (pos 0)) (signed_decimal q ++ root_two)
    (cond (int_lt q (pos 0)) (signed_decimal p ++ codes " - " ++ decimal (unsigned_abs q) ++ root_two)
    (signed_decimal p ++ codes " + " ++ decimal (unsigned_abs q) ++ root_two)))
