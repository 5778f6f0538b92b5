-- Words in the first places of lent memory.
--
-- Stands         a word stands in the first n places, and the places behind it are as they were
-- add_refusal    why one more letter finds no place, if it finds none
use Rattle.std.specs.Prelude.{◌≡◌, ℕ, ◌+◌, ◌-◌, ◌^◌, min, Bool, cond, ◌&&◌, List, length, take, drop, Some, None, Option, nat_le}
use Rattle.base.specs.declared.refusals.Refusal.{Refusal}
use Rattle.base.specs.declared.refusals.Refusal.TheVariants.{OutputShort}
use Rattle.words.specs.Words.{added}

pub record Stands {X : Type 0} (w : List X) (n : ℕ) (before after : List X) : Type 0 where
  pub long : n ≡ length w
  pub word : take n after ≡ w
  pub rest : drop n after ≡ drop n before

module _ {X : Type 0} (opposite : X → X) (equal : X → X → Bool) where
  -- the word stands in the first len places; where it does not fit there itself, nothing is added to it
  abbrev pub add_refusal : List X → ℕ → X → Option Refusal
  add_refusal places len x =
      cond (nat_le len (length places) && nat_le (length (added opposite equal (take len places) x)) (length places)) None (Some (OutputShort (min (len + 1) (2 ^ 64 - 1))))
