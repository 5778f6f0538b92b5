-- What a double-ended list holds over the memory that it is handed.
--
-- fits            the indices of the list fit a memory of so many places
-- head_over       the head of the list over so many places, and
-- len_over        how many elements it has there: a list that does not fit them is empty there
-- Over            r is the list with that head and that many elements, and fits
-- ring            n places from a head on, and on from the start of the memory behind its end
-- contents        the elements of the list, in order
-- round           the place of element k, counted from a head round the end of the memory
-- full_refusal    why a list of these contents takes no more elements, if it takes none
use Rattle.std.specs.Prelude.{◌≡◌, ℕ, ◌+◌, ◌-◌, ◌≤◌, Bool, cond, ◌&&◌, List, ◌++◌, length, take, drop, Some, None, Option, nat_le, nat_lt}
use Rattle.base.specs.declared.refusals.Refusal.{Refusal}
use Rattle.base.specs.declared.refusals.Refusal.TheVariants.{ListFull}
use Rattle.deque.specs.declared.Deque.{Deque}

abbrev pub fits : {X : Type 0} → Deque X → ℕ → Bool
fits d size = nat_le d.head size && nat_le d.len size

abbrev pub head_over : {X : Type 0} → Deque X → ℕ → ℕ
head_over d size = cond (fits d size) d.head 0

abbrev pub len_over : {X : Type 0} → Deque X → ℕ → ℕ
len_over d size = cond (fits d size) d.len 0

pub record Over {X : Type 0} (d : Deque X) (size : ℕ) (r : Deque X) : Type 0 where
  pub head : r.head ≡ head_over d size
  pub len : r.len ≡ len_over d size
  pub head_within : r.head ≤ size
  pub len_within : r.len ≤ size

module _ {X : Type 0} where
  abbrev pub ring : List X → ℕ → ℕ → List X
  ring slots head n = take n (drop head slots ++ slots)

  unfoldable pub contents : Deque X → List X → List X
  contents d slots = ring slots (head_over d (length slots)) (len_over d (length slots))

  abbrev pub full_refusal : List X → ℕ → Option Refusal
  full_refusal elements size = cond (nat_lt (length elements) size) None (Some (ListFull size))

abbrev pub round : ℕ → ℕ → ℕ → ℕ
round head k size = cond (nat_lt (head + k) size) (head + k) (head + k - size)
