-- Words over letters of which each has an opposite.
--
-- Reduced      no letter of the word is followed by its opposite
-- Homotopic    one word becomes the other by inserting and removing, finitely often, a letter followed by its opposite
-- Lawful       the opposite of the opposite is the letter, and the test tells equal letters
-- added        a word with one more letter: it cancels with the last letter, or is appended
-- adding       a word with the letters of another added one by one
-- reduction    the letters of a word, added one by one to the empty word
-- peak         the most letters that stand at a time while letters are added
-- Reductions   what holds of reduction, said in the first two words
use Rattle.std.specs.Prelude.{◌≡◌, ℕ, ◌≤◌, max, Bool, cond, List, [], ◌∷◌, ◌++◌, length, Decides, ◌≢◌}

abbrev pub Reduced : {X : Type 0} → (X → X) → List X → Type 0
Reduced {X} opposite w = (before after : List X) (x : X) → w ≢ before ++ x ∷ opposite x ∷ after

pub data Homotopic {X : Type 0} (opposite : X → X) : List X → List X → Type 0 where
  same : (v : List X) → Homotopic opposite v v
  spur : (before after : List X) (x : X) → Homotopic opposite (before ++ after) (before ++ x ∷ opposite x ∷ after)
  back : (v w : List X) → Homotopic opposite v w → Homotopic opposite w v
  join : (u v w : List X) → Homotopic opposite u v → Homotopic opposite v w → Homotopic opposite u w

pub record Lawful {X : Type 0} (opposite : X → X) (equal : X → X → Bool) : Type 0 where
  pub twice : (x : X) → opposite (opposite x) ≡ x
  pub decides : (x y : X) → Decides (equal x y) (x ≡ y)

module _ {X : Type 0} (opposite : X → X) (equal : X → X → Bool) where
  abbrev pub added : List X → X → List X
  added [] x = x ∷ []
  added (y ∷ []) x = cond (equal y (opposite x)) [] (y ∷ x ∷ [])
  added (y ∷ z ∷ w) x = y ∷ added (z ∷ w) x

  abbrev pub adding : List X → List X → List X
  adding v [] = v
  adding v (x ∷ w) = adding (added v x) w

  abbrev pub reduction : List X → List X
  reduction w = adding [] w

  abbrev pub peak : List X → List X → ℕ
  peak v [] = length v
  peak v (x ∷ w) = max (length v) (peak (added v x) w)

  pub record Reductions : Type 0 where
    -- the reduction is reduced, and homotopic to the word
    pub reduced : (w : List X) → Reduced opposite (reduction w)
    pub homotopic : (w : List X) → Homotopic opposite w (reduction w)
    -- a reduced word is its own reduction
    pub kept : (w : List X) → Reduced opposite w → reduction w ≡ w
    -- two words are homotopic exactly when their reductions are equal
    pub equal_from_homotopic : (v w : List X) → Homotopic opposite v w → reduction v ≡ reduction w
    pub homotopic_from_equal : (v w : List X) → reduction v ≡ reduction w → Homotopic opposite v w
    -- no other reduced word is homotopic to it
    pub only : (v w : List X) → Homotopic opposite v w → Reduced opposite w → w ≡ reduction v
    -- none that is homotopic to it is shorter
    pub shortest : (v w : List X) → Homotopic opposite v w → length (reduction v) ≤ length w
    -- a joined word is reduced by way of its parts, one letter too
    pub joined : (v w : List X) → reduction (v ++ w) ≡ reduction (reduction v ++ reduction w)
    pub one_more : (w : List X) (x : X) → reduction (w ++ x ∷ []) ≡ added (reduction w) x
