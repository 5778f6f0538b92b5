-- The two sorts of letters, with their opposites and their tests for equal letters.
--
-- recrossed         the crossing back: the half-edge entered is left, and the half-edge left is entered
-- same_crossing     whether two crossings leave the same half-edge and enter the same half-edge
-- negated           a signed number with its sign changed; one of the size of the lowest of 16 bits is kept
-- inverse           the generator with its sign changed
-- same_generator    whether two signed generators have the same number, sign and all
use Rattle.std.specs.Prelude.{suc, Bool, cond, ◌&&◌, ℤ, pos, negsuc, neg_ℤ, ◌==◌}
use Rattle.std.specs.Ordering.{int_eq}
use Rattle.words.specs.declared.sorts.Crossing.{Crossing}
use Rattle.words.specs.declared.sorts.Generator.{Generator}

abbrev pub recrossed : Crossing → Crossing
recrossed c = record { left = c.entered; entered = c.left }

abbrev pub same_crossing : Crossing → Crossing → Bool
same_crossing c d = c.left.0 == d.left.0 && c.entered.0 == d.entered.0

-- 32768 is kept too: no 16 bits hold it, and so the opposite of the opposite is the number, for every number
abbrev pub negated : ℤ → ℤ
negated (pos n) = cond (n == 32768) (pos n) (neg_ℤ (pos n))
negated (negsuc n) = cond (n == 32767) (negsuc n) (pos (suc n))

abbrev pub inverse : Generator → Generator
inverse g = record { 0 = negated g.0 }

abbrev pub same_generator : Generator → Generator → Bool
same_generator g h = int_eq g.0 h.0
