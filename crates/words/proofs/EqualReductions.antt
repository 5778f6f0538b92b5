-- Two words are homotopic exactly when their reductions are equal; a reduction is reduced, and the only reduced word that is
-- homotopic to its word. It rests on one fact: a letter and its opposite, added one after the other, leave a reduced word.
use Rattle.std.proofs.Common.{◌≡◌, ◌+◌, ◌≤◌, Bool, List, [], ◌∷◌, ◌++◌, length, sym, refl, ap, ◌∙◌, subst, arith}
use Rattle.std.proofs.lemmas.List.{append_assoc, append-nil, length-append}
use Rattle.words.specs.Words.{Reduced, Homotopic, same, spur, back, join, Lawful, added, adding, reduction, Reductions}
use Rattle.words.proofs.LastLetters.{cancels, appends, way, reduced_added, undone, length_added}

module _ {X : Type 0} (opposite : X → X) where
  pub reduced_none : Reduced opposite []
  reduced_none before after x e = omega (arith, ap length e, length-append before (x ∷ opposite x ∷ after))

  -- the same words, written otherwise
  pub homotopic_like : {v v' w w' : List X} → v ≡ v' → w ≡ w' → Homotopic opposite v w → Homotopic opposite v' w'
  homotopic_like {v} {v'} {w} {w'} e f h = subst (λ u. Homotopic opposite u w') e (subst (λ u. Homotopic opposite v u) f h)

  regrouped : (a before u after b : List X) → (a ++ before) ++ (u ++ (after ++ b)) ≡ a ++ ((before ++ (u ++ after)) ++ b)
  regrouped a before u after b = simp append_assoc

  -- homotopic words stay so between two others
  pub homotopic_between : (a b : List X) {v w : List X} → Homotopic opposite v w → Homotopic opposite (a ++ (v ++ b)) (a ++ (w ++ b))
  homotopic_between a b (same v) = same _
  homotopic_between a b (spur before after x) =
      homotopic_like (regrouped a before [] after b) (regrouped a before (x ∷ opposite x ∷ []) after b) (spur (a ++ before) (after ++ b) x)
  homotopic_between a b (back v w h) = back _ _ (homotopic_between a b h)
  homotopic_between a b (join u v w g h) = join _ _ _ (homotopic_between a b g) (homotopic_between a b h)

  -- homotopic words, joined
  pub homotopic_joined : {v v' w w' : List X} → Homotopic opposite v v' → Homotopic opposite w w' → Homotopic opposite (v ++ w) (v' ++ w')
  homotopic_joined {v} {v'} {w} {w'} g h =
      join _ _ _ (homotopic_between [] w g) (homotopic_like (ap (λ u. v' ++ u) (append-nil w)) (ap (λ u. v' ++ u) (append-nil w')) (homotopic_between v' [] h))

module _ {X : Type 0} (opposite : X → X) (equal : X → X → Bool) (lawful : Lawful opposite equal) where
  pub adding_append : (u v w : List X) → adding opposite equal u (v ++ w) ≡ adding opposite equal (adding opposite equal u v) w
  adding_append u [] w = refl
  adding_append u (x ∷ v) w = adding_append (added opposite equal u x) v w

  pub reduced_adding : (v w : List X) → Reduced opposite v → Reduced opposite (adding opposite equal v w)
  reduced_adding v [] r = r
  reduced_adding v (x ∷ w) r = reduced_adding (added opposite equal v x) w (reduced_added opposite equal lawful v x r)

  pub reduced_reduction : (w : List X) → Reduced opposite (reduction opposite equal w)
  reduced_reduction w = reduced_adding [] w (reduced_none opposite)

  -- one letter added, and the letters behind it
  homotopic_step : (v w : List X) (x : X) → Homotopic opposite (v ++ x ∷ w) (added opposite equal v x ++ w)
  homotopic_step v w x = elim (way opposite equal lawful v x) [
    | cancels u e a ↦
        let here : u ++ opposite x ∷ opposite (opposite x) ∷ w ≡ v ++ x ∷ w
        = ap (λ y. u ++ opposite x ∷ y ∷ w) (lawful.twice x) ∙ sym (append_assoc u (opposite x ∷ []) (x ∷ w)) ∙ ap (λ t. t ++ x ∷ w) (sym e) in
        homotopic_like opposite here (ap (λ t. t ++ w) (sym a)) (back _ _ (spur u w (opposite x)))
    | appends no_end a ↦ homotopic_like opposite refl (sym (append_assoc v (x ∷ []) w) ∙ ap (λ t. t ++ w) (sym a)) (same _)
  ]

  homotopic_adding : (v w : List X) → Homotopic opposite (v ++ w) (adding opposite equal v w)
  homotopic_adding v [] = homotopic_like opposite (sym (append-nil v)) refl (same _)
  homotopic_adding v (x ∷ w) = join _ _ _ (homotopic_step v w x) (homotopic_adding (added opposite equal v x) w)

  pub homotopic_reduction : (w : List X) → Homotopic opposite w (reduction opposite equal w)
  homotopic_reduction w = homotopic_adding [] w

  pub equal_reductions : {v w : List X} → Homotopic opposite v w → reduction opposite equal v ≡ reduction opposite equal w
  equal_reductions (same v) = refl
  equal_reductions (spur before after x) =
      adding_append [] before after
      ∙ ap (λ u. adding opposite equal u after) (sym (undone opposite equal lawful (reduction opposite equal before) x (reduced_reduction before)))
      ∙ sym (adding_append [] before (x ∷ opposite x ∷ after))
  equal_reductions (back v w h) = sym (equal_reductions h)
  equal_reductions (join u v w g h) = equal_reductions g ∙ equal_reductions h

  pub homotopic_from_reductions : (v w : List X) → reduction opposite equal v ≡ reduction opposite equal w → Homotopic opposite v w
  homotopic_from_reductions v w e =
      join _ _ _ (homotopic_like opposite refl e (homotopic_reduction v)) (back _ _ (homotopic_reduction w))

  -- nothing cancels as the letters of a reduced word are added one by one
  adding_reduced : (v w : List X) → Reduced opposite (v ++ w) → adding opposite equal v w ≡ v ++ w
  adding_reduced v [] r = sym (append-nil v)
  adding_reduced v (x ∷ w) r = elim (way opposite equal lawful v x) [
    | cancels u e a ↦ absurd (r u w (opposite x) (ap (λ t. t ++ x ∷ w) e ∙ append_assoc u (opposite x ∷ []) (x ∷ w) ∙ ap (λ y. u ++ opposite x ∷ y ∷ w) (sym (lawful.twice x))))
    | appends no_end a ↦
        ap (λ t. adding opposite equal t w) a ∙ adding_reduced (v ++ x ∷ []) w (subst (Reduced opposite) (sym (append_assoc v (x ∷ []) w)) r) ∙ append_assoc v (x ∷ []) w
  ]

  pub reduction_reduced : (w : List X) → Reduced opposite w → reduction opposite equal w ≡ w
  reduction_reduced w r = adding_reduced [] w r

  pub reduction_only : (v w : List X) → Homotopic opposite v w → Reduced opposite w → w ≡ reduction opposite equal v
  reduction_only v w h r = sym (reduction_reduced w r) ∙ sym (equal_reductions h)

  length_adding : (v w : List X) → length (adding opposite equal v w) ≤ length v + length w
  length_adding v [] = omega arith
  length_adding v (x ∷ w) = omega (arith, length_adding (added opposite equal v x) w, length_added opposite equal lawful v x)

  pub length_reduction : (w : List X) → length (reduction opposite equal w) ≤ length w
  length_reduction w = omega (arith, length_adding [] w)

  pub reduction_joined : (v w : List X) → reduction opposite equal (v ++ w) ≡ reduction opposite equal (reduction opposite equal v ++ reduction opposite equal w)
  reduction_joined v w = equal_reductions (homotopic_joined opposite (homotopic_reduction v) (homotopic_reduction w))

  pub reduction_more : (w : List X) (x : X) → reduction opposite equal (w ++ x ∷ []) ≡ added opposite equal (reduction opposite equal w) x
  reduction_more w x = adding_append [] w (x ∷ [])

  pub reductions : Reductions opposite equal
  reductions = record {
    reduced = reduced_reduction;
    homotopic = homotopic_reduction;
    kept = reduction_reduced;
    equal_from_homotopic = λ v w h. equal_reductions h;
    homotopic_from_equal = homotopic_from_reductions;
    only = reduction_only;
    shortest = λ v w h. subst (λ u. length u ≤ length w) (sym (equal_reductions h)) (length_reduction w);
    joined = reduction_joined;
    one_more = reduction_more;
  }
