-- first_of    the first word of a line: all before the first blank, or the whole line
-- rest_of     what follows it, without blanks at its ends, or nothing where the line is one word
-- line_of     the next of the lines that are still to be read, if there is one
-- IsFault     a fault in the line of this number in the file, and what should stand there
-- Marked      the next line begins with a word
-- Takes       the next line is taken, with its number in the file, and those behind it are left
-- TakesAfter  the same with what follows the word at its begin
use Rattle.std.specs.Prelude.{◌≡◌, ℕ, List, [], ◌∷◌, map, length, cond, Option, IsSomeAnd, ◌==◌, nat_lt}
use Rattle.std.specs.String.{string_bytes}
use Rattle.std.specs.List.{slice_get, position_or_len, before_first, after_first}
use Rattle.std.specs.Str.{trim}
use Rattle.vectors.specs.declared.reader.Line.{Line}
use Rattle.vectors.specs.declared.reader.Lines.{Lines}
use Rattle.vectors.specs.declared.reader.Malformed.{Malformed}
use Rattle.vectors.specs.Tallies.{more}

abbrev pub first_of : List ℕ → List ℕ
first_of line = before_first (λ b. b == 32) line

abbrev pub rest_of : List ℕ → List ℕ
rest_of line = cond (nat_lt (position_or_len (λ b. b == 32) line) (length line)) (trim (after_first (λ b. b == 32) line)) []

abbrev pub line_of : Lines → Option (List ℕ)
line_of l = slice_get (map string_bytes l.rest.now) 0

abbrev pub IsFault : ℕ → List ℕ → Malformed → Type 0
IsFault number text fault = (fault.line ≡ number) × (fault.expected.now ≡ text)

abbrev pub Marked : Lines → List ℕ → Type 0
Marked l mark = IsSomeAnd (line_of l) (λ line. first_of line ≡ mark)

pub record Takes (old : Lines) (line : Line) (new : Lines) : Type 0 where
  pub lines : map string_bytes old.rest.now ≡ line.text.now ∷ map string_bytes new.rest.now
  pub number : line.number ≡ old.number
  pub next : new.number ≡ more old.number

pub record TakesAfter (old : Lines) (mark : List ℕ) (rest : Line) (new : Lines) : Type 0 where
  pub line : IsSomeAnd (line_of old) (λ line. (first_of line ≡ mark) × (rest_of line ≡ rest.text.now) × (map string_bytes old.rest.now ≡ line ∷ map string_bytes new.rest.now))
  pub number : rest.number ≡ old.number
  pub next : new.number ≡ more old.number
