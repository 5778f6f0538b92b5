-- What a pop gives of a list that is known, for callers: the element at that end, and the list without it.
use Rattle.std.proofs.Common.{◌≡◌, List, [], ◌∷◌, ◌++◌, length, Some, None, Option, sym, ap, ◌∙◌, arith, MatchOption}
use Rattle.std.proofs.lemmas.List.{length_push, same_from_push}

module _ {X : Type 0} (P : Type 0) (before after rest : List X) (y : X) where
  pub popped_is_first : (r : Option X) → MatchOption r ((before ≡ []) × P) (λ x. before ≡ x ∷ after) → before ≡ y ∷ rest → (r ≡ Some y) × (after ≡ rest)
  popped_is_first None h e = absurd (omega (arith, ap length (sym e ∙ h.0)))
  popped_is_first (Some x) h e = (cc, cc)

  pub popped_is_last : (r : Option X) → MatchOption r ((before ≡ []) × P) (λ x. before ≡ after ++ x ∷ []) → before ≡ rest ++ y ∷ [] → (r ≡ Some y) × (after ≡ rest)
  popped_is_last None h e = absurd (omega (arith, ap length (sym e ∙ h.0), length_push rest y))
  popped_is_last (Some x) h e =
      let p = same_from_push after rest x y (sym h ∙ e) in
      (ap Some p.1, p.0)
