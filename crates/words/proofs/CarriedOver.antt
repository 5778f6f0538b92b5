-- Words of one sort, carried over to words of another letter by letter, so that a letter followed by its opposite becomes a word
-- homotopic to the empty one: homotopic words become homotopic words.
use Rattle.std.proofs.Common.{List, [], ◌∷◌, ◌++◌, sym, ap, ◌∙◌}
use Rattle.std.specs.List.{flat_map}
use Rattle.std.proofs.lemmas.List.{append_assoc}
use Rattle.std.proofs.lemmas.Grind.{flat_map-append}
use Rattle.words.specs.Words.{Homotopic, same, spur, back, join}
use Rattle.words.proofs.EqualReductions.{homotopic_like, homotopic_between}

module _ {X Y : Type 0} (f : X → List Y) (opposite : X → X) (opposite' : Y → Y) (spurs : (x : X) → Homotopic opposite' [] (f x ++ f (opposite x))) where
  pub homotopic_carried : {v w : List X} → Homotopic opposite v w → Homotopic opposite' (flat_map f v) (flat_map f w)
  homotopic_carried (same v) = same _
  homotopic_carried (spur before after x) =
      homotopic_like opposite'
      (sym (flat_map-append f before after))
      (ap (λ l. flat_map f before ++ l) (append_assoc (f x) (f (opposite x)) (flat_map f after)) ∙ sym (flat_map-append f before (x ∷ opposite x ∷ after)))
      (homotopic_between opposite' (flat_map f before) (flat_map f after) (spurs x))
  homotopic_carried (back v w h) = back _ _ (homotopic_carried h)
  homotopic_carried (join u v w g h) = join _ _ _ (homotopic_carried g) (homotopic_carried h)
