-- What becomes of a word to which a letter is added: the word ends in the letter's opposite and loses it, or it does not and
-- the letter is appended. So a reduced word stays reduced, and a letter and its opposite, added one after the other, leave it.
use Rattle.std.proofs.Common.{◌≡◌, ◌+◌, ◌≤◌, Bool, false, List, [], ◌∷◌, ◌++◌, length, sym, refl, ap, ◌∙◌, subst, ⊎_elim, arith}
use Rattle.std.proofs.lemmas.List.{append_assoc, length_push, same_from_push}
use Rattle.std.proofs.lemmas.Bool.{cases_Bool, cond-true, cond-false, both_ways}
use Rattle.words.specs.Words.{Reduced, Lawful, added}

module _ {X : Type 0} where
  pub data Last : List X → Type 0 where
    none : Last []
    some : (front : List X) (x : X) → Last (front ++ x ∷ [])

  -- every word is empty or has a last letter
  pub last : (w : List X) → Last w
  last [] = none
  last (x ∷ w) = elim (last w) as (λ u l. Last (x ∷ u)) [ none ↦ some [] x | some front y ↦ some (x ∷ front) y ]

  pub none_last : (v : List X) (x : X) → [] ≡ v ++ x ∷ [] → ⊥
  none_last v x e = omega (arith, ap length e, length_push v x)

module _ {X : Type 0} (opposite : X → X) (equal : X → X → Bool) (lawful : Lawful opposite equal) where
  -- what becomes of w, as x is added
  pub data Way (w : List X) (x : X) : Type 0 where
    cancels : (v : List X) → w ≡ v ++ opposite x ∷ [] → added opposite equal w x ≡ v → Way w x
    appends : ((v : List X) → w ≡ v ++ opposite x ∷ [] → ⊥) → added opposite equal w x ≡ w ++ x ∷ [] → Way w x

  not_longer : (y z : X) (w : List X) (x : X) → ((v : List X) → z ∷ w ≡ v ++ opposite x ∷ [] → ⊥) → (v : List X) → y ∷ z ∷ w ≡ v ++ opposite x ∷ [] → ⊥
  not_longer y z w x no_end [] e = omega (arith, ap length e)
  not_longer y z w x no_end (a ∷ v) e = no_end v (cc)

  not_alone : (y x : X) → equal y (opposite x) ≡ false → (v : List X) → y ∷ [] ≡ v ++ opposite x ∷ [] → ⊥
  not_alone y x no_test v e =
      both_ways (equal y (opposite x)) no_test ((lawful.decides y (opposite x)).1 (same_from_push [] v y (opposite x) e).1)

  pub way : (w : List X) (x : X) → Way w x
  way [] x = appends (λ v. none_last v (opposite x)) refl
  way (y ∷ []) x = ⊎_elim
      (λ t. cancels [] (ap (λ z. z ∷ []) ((lawful.decides y (opposite x)).0 t)) (cond-true _ _ _ t))
      (λ f. appends (not_alone y x f) (cond-false _ _ _ f))
      (cases_Bool (equal y (opposite x)))
  way (y ∷ z ∷ w) x = elim (way (z ∷ w) x) [
    | cancels v e a ↦ cancels (y ∷ v) (ap (λ u. y ∷ u) e) (ap (λ u. y ∷ u) a)
    | appends no_end a ↦ appends (not_longer y z w x no_end) (ap (λ u. y ∷ u) a)
  ]

  -- the part in front of a reduced word is reduced
  pub reduced_front : (v w : List X) → Reduced opposite (v ++ w) → Reduced opposite v
  reduced_front v w r before after x e = r before (after ++ w) x (ap (λ u. u ++ w) e ∙ append_assoc before (x ∷ opposite x ∷ after) w)

  -- a spur in w and one letter more ends in that letter, or lies in w
  no_new_spur : (w : List X) (x : X) → Reduced opposite w → ((v : List X) → w ≡ v ++ opposite x ∷ [] → ⊥) → (before : List X) (y : X) (after : List X)
      → Last after → w ++ x ∷ [] ≡ before ++ y ∷ opposite y ∷ after → ⊥
  no_new_spur w x r no_end before y after none e =
      let p = same_from_push w (before ++ y ∷ []) x (opposite y) (e ∙ sym (append_assoc before (y ∷ []) (opposite y ∷ []))) in
      no_end before (p.0 ∙ ap (λ z. before ++ z ∷ []) (sym (lawful.twice y) ∙ ap opposite (sym p.1)))
  no_new_spur w x r no_end before y after (some front z) e =
      r before front y (same_from_push w (before ++ y ∷ opposite y ∷ front) x z (e ∙ sym (append_assoc before (y ∷ opposite y ∷ front) (z ∷ [])))).0

  pub reduced_added : (w : List X) (x : X) → Reduced opposite w → Reduced opposite (added opposite equal w x)
  reduced_added w x r = elim (way w x) [
    | cancels v e a ↦ subst (Reduced opposite) (sym a) (reduced_front v _ (subst (Reduced opposite) e r))
    | appends no_end a ↦ subst (Reduced opposite) (sym a) (λ before after y. no_new_spur w x r no_end before y after (last after))
  ]

  -- a letter added to a word that ends in its opposite
  pub added_end : (w : List X) (x : X) → added opposite equal (w ++ opposite x ∷ []) x ≡ w
  added_end w x = elim (way (w ++ opposite x ∷ []) x) [
    | cancels v e a ↦ a ∙ sym (same_from_push w v (opposite x) (opposite x) e).0
    | appends no_end a ↦ absurd (no_end w refl)
  ]

  -- a letter and its opposite, added one after the other
  pub undone : (w : List X) (x : X) → Reduced opposite w → added opposite equal (added opposite equal w x) (opposite x) ≡ w
  undone w x r = elim (way w x) [
    | cancels v e a ↦ ap (λ u. added opposite equal u (opposite x)) a ∙ elim (way v (opposite x)) [
      | cancels u f b ↦ absurd (r u [] x (e
          ∙ ap (λ t. t ++ opposite x ∷ []) (f ∙ ap (λ y. u ++ y ∷ []) (lawful.twice x))
          ∙ append_assoc u (x ∷ []) (opposite x ∷ [])))
      | appends no_end b ↦ b ∙ sym e
    ]
    | appends no_end a ↦
        ap (λ u. added opposite equal u (opposite x)) (a ∙ ap (λ y. w ++ y ∷ []) (sym (lawful.twice x))) ∙ added_end w (opposite x)
  ]

  -- at most one letter more
  pub length_added : (w : List X) (x : X) → length (added opposite equal w x) ≤ length w + 1
  length_added w x = elim (way w x) [
    | cancels v e a ↦ omega (arith, ap length a, ap length e, length_push v (opposite x))
    | appends no_end a ↦ omega (arith, ap length a, length_push w x)
  ]
