-- A word that is read place by place, each letter added to the word in the first places, is reduced in the end.
-- No place is written before it is read, and none behind the most that stood at a time.
use Rattle.std.proofs.Common.{◌≡◌, ℕ, ◌+◌, ◌-◌, ◌<◌, ◌≤◌, max, Bool, List, [], ◌∷◌, length, get_or, take, drop, sym, refl, ap, ◌∙◌, subst, arith}
use Rattle.std.proofs.lemmas.List.{drop_more, drop-drop, at_drop_all}
use Rattle.words.specs.Words.{Lawful, added, adding, reduction, peak}
use Rattle.words.specs.Places.{Stands}
use Rattle.words.proofs.LastLetters.{length_added}

module _ {X : Type 0} where
  -- what stands from n on stands from a later place on
  drop_later : (n m : ℕ) (a b : List X) → n ≤ m → drop n a ≡ drop n b → drop m a ≡ drop m b
  drop_later n m a b le e =
      let up : n + (m - n) ≡ m = omega arith in
      ap (λ k. drop k a) (sym up) ∙ sym (drop-drop (m - n) n a) ∙ ap (drop (m - n)) e ∙ drop-drop (m - n) n b ∙ ap (λ k. drop k b) up

module _ {X : Type 0} (opposite : X → X) (equal : X → X → Bool) where
  -- the first i letters of start are read, and n places hold what they reduce to
  pub record Reading (start : List X) (i n : ℕ) (places : List X) : Type 0 where
    pub few : n ≤ i
    pub long : length (take n places) ≡ n
    pub unread : drop i places ≡ drop i start
    pub left : adding opposite equal (take n places) (drop i start) ≡ reduction opposite equal start
    pub high : peak opposite equal (take n places) (drop i start) ≤ peak opposite equal [] start
    pub rest : drop (peak opposite equal [] start) places ≡ drop (peak opposite equal [] start) start

  pub begins : (start : List X) → Reading start 0 0 start
  begins start = record { few = omega arith; long = refl; unread = refl; left = refl; high = omega arith; rest = refl }

  peak_above : (v w : List X) → length v ≤ peak opposite equal v w
  peak_above v [] = omega arith
  peak_above v (x ∷ w) = omega arith

  module _ (lawful : Lawful opposite equal) (start : List X) (i n m : ℕ) (x : X) (places after : List X)
      (within : i < length places) (read : x ≡ get_or places i x) (reading : Reading start i n places) (step : Stands (added opposite equal (take n places) x) m places after) where
    pub goes_on : Reading start (i + 1) m after
    goes_on =
        let v = take n places in
        let tail = drop (i + 1) start in
        let few : m ≤ i + 1 = omega (arith, reading.few, reading.long, step.long, length_added opposite equal lawful v x) in
        let next : drop i start ≡ x ∷ tail =
        sym reading.unread ∙ drop_more places i x within ∙ ap (λ y. y ∷ drop (i + 1) places) (sym read)
        ∙ ap (λ l. x ∷ l) (drop_later i (i + 1) places start (omega arith) reading.unread) in
        let word = step.word in
        let higher : max (length v) (peak opposite equal (added opposite equal v x) tail) ≤ peak opposite equal [] start =
        subst (λ l. peak opposite equal v l ≤ peak opposite equal [] start) next reading.high in
        let high : peak opposite equal (added opposite equal v x) tail ≤ peak opposite equal [] start = omega arith in
        let low : m ≤ peak opposite equal [] start = omega (arith, step.long, peak_above (added opposite equal v x) tail) in
        record {
          few = few;
          long = ap length word ∙ sym step.long;
          unread = drop_later m (i + 1) after places few step.rest ∙ drop_later i (i + 1) places start (omega arith) reading.unread;
          left = ap (λ w. adding opposite equal w tail) word ∙ sym (ap (adding opposite equal v) next) ∙ reading.left;
          high = subst (λ w. peak opposite equal w tail ≤ peak opposite equal [] start) (sym word) high;
          rest = drop_later m (peak opposite equal [] start) after places low step.rest ∙ reading.rest;
        }

  pub ends : (start : List X) (i n : ℕ) (places : List X) → length start ≤ i → Reading start i n places → take n places ≡ reduction opposite equal start
  ends start i n places all reading =
      sym (at_drop_all (adding opposite equal (take n places)) start i all) ∙ reading.left
