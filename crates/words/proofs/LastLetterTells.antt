-- What becomes of a word as a letter is added, by its last letter: it is given up, or the letter is appended.
use Rattle.std.proofs.Common.{◌≡◌, ℕ, zero, suc, ◌-◌, ◌<◌, Bool, true, false, cond, MatchBool, List, [], ◌∷◌, ◌++◌, length, take, Some, refl, sym, ap, ◌∙◌, subst, arith}
use Rattle.std.specs.List.{slice_get}
use Rattle.std.specs.Option.{option_eq}
use Rattle.words.specs.Words.{added}

module _ {X : Type 0} (opposite : X → X) (equal : X → X → Bool) where
  -- what becomes of w as x is added, where i letters stand in front of the last
  abbrev Told : Bool → List X → X → ℕ → Type 0
  Told t w x i = MatchBool t ((0 < length w) × (added opposite equal w x ≡ take i w)) (added opposite equal w x ≡ w ++ x ∷ [])

  told_behind : (t : Bool) (y z : X) (w : List X) (x : X) (i : ℕ) → Told t (z ∷ w) x i → Told t (y ∷ z ∷ w) x (suc i)
  told_behind true y z w x i h = (omega arith, ap (λ u. y ∷ u) h.1)
  told_behind false y z w x i h = ap (λ u. y ∷ u) h

  told : (w : List X) (x : X) (i : ℕ) → i ≡ length w - 1 → Told (option_eq equal (slice_get w i) (Some (opposite x))) w x i
  told [] x i e = refl
  told (y ∷ []) x zero e =
      elim (equal y (opposite x)) as (λ t. MatchBool t ((0 < 1) × (cond t [] (y ∷ x ∷ []) ≡ [])) (cond t [] (y ∷ x ∷ []) ≡ y ∷ x ∷ [])) [
        | true ↦ (omega arith, refl)
        | false ↦ refl
      ]
  told (y ∷ []) x (suc i) e = absurd (omega arith)
  told (y ∷ z ∷ w) x zero e = absurd (omega arith)
  told (y ∷ z ∷ w) x (suc i) e = told_behind _ y z w x i (told (z ∷ w) x i (omega arith))

  -- the last letter tells what becomes of a word as x is added
  pub last_tells : (w : List X) (x : X) → MatchBool (option_eq equal (slice_get w (length w - 1)) (Some (opposite x)))
      ((0 < length w) × (added opposite equal w x ≡ take (length w - 1) w))
      (added opposite equal w x ≡ w ++ x ∷ [])
  last_tells w x = told w x (length w - 1) refl

  -- where that letter is known, its test tells
  pub last_read : (w : List X) (x y : X) (t : Bool) → slice_get w (length w - 1) ≡ Some y → t ≡ equal y (opposite x) → MatchBool t
      ((0 < length w) × (added opposite equal w x ≡ take (length w - 1) w))
      (added opposite equal w x ≡ w ++ x ∷ [])
  last_read w x y t read test =
      let same : option_eq equal (slice_get w (length w - 1)) (Some (opposite x)) ≡ t = ap (λ o. option_eq equal o (Some (opposite x))) read ∙ sym test in
      subst (λ b. MatchBool b ((0 < length w) × (added opposite equal w x ≡ take (length w - 1) w)) (added opposite equal w x ≡ w ++ x ∷ [])) same (last_tells w x)
