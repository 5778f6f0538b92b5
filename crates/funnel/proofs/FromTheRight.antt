-- What looks and pops say of a row, from whichever side it is seen: a place that holds nothing is behind its end, and a pop takes the first element of a row that is known.
use Rattle.std.proofs.Common.{◌≡◌, ℕ, zero, suc, ◌≤◌, List, [], ◌∷◌, length, Some, None, Option, sym, ap, ◌∙◌, arith, MatchOption}
use Rattle.std.specs.List.{slice_get}

-- how many elements an option holds
abbrev pub held : {X : Type 0} → Option X → ℕ
held None = 0
held (Some x) = 1

pub none_there : {X : Type 0} (l : List X) (k : ℕ) → None ≡ slice_get l k → length l ≤ k
none_there [] k e = omega arith
none_there (x ∷ xs) zero e =
    let no : 0 ≡ 1 = ap held e in
    absurd (omega (arith, no))
none_there (x ∷ xs) (suc k) e = omega (arith, none_there xs k e)

-- a pop takes the first element of a list that is known
pub taken : {X : Type 0} (P : Type 0) (row row' : List X) (c : X) (rest : List X) (r : Option X) → MatchOption r ((row ≡ []) × P) (λ x. row ≡ x ∷ row') → row ≡ c ∷ rest → row ≡ c ∷ row'
taken P row row' c rest None (none, p) e = absurd (omega (arith, ap length (sym none ∙ e)))
taken P row row' c rest (Some x) is e =
    let same : x ≡ c = cc in
    is ∙ ap (λ v. v ∷ row') same
