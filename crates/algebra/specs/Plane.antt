-- Vec        a pair of coordinates: a point, or a step between two points
-- plus       the sum of two steps
-- less       the difference of two steps or points
-- times      a multiple of a step
-- cross      the cross product: positive where the second step points to the left of the first
-- dot        the value of a linear form at a step
-- ◌⊗◌ ◌⟶◌ ◌⊙◌   cross product, step from point to point, and value of a form, as closed words of an arithmetic
use Rattle.algebra.specs.Arithmetic.{Ops, Arithmetic}

pub record Vec (A : Type 0) : Type 0 where
  pub x : A
  pub y : A

-- each is written once over any operations, so that the ring solver can read it too
module _ {A : Type 0} (O : Ops A) where
  open O use {add as ◌+◌, mul as ◌*◌, neg as -◌}

  infixl 65 ◌+◌
  infixl 70 ◌*◌
  infix 75 -◌
  abbrev pub plus : Vec A → Vec A → Vec A
  plus a b = record { x = a.x + b.x; y = a.y + b.y }

  abbrev pub less : Vec A → Vec A → Vec A
  less a b = record { x = a.x + - b.x; y = a.y + - b.y }

  abbrev pub times : A → Vec A → Vec A
  times s a = record { x = s * a.x; y = s * a.y }

  abbrev pub cross : Vec A → Vec A → A
  cross a b = a.x * b.y + - (a.y * b.x)

  abbrev pub dot : Vec A → Vec A → A
  dot f v = f.x * v.x + f.y * v.y

module _ (N : Arithmetic) where
  open N use {carrier as A}

  infix 72 ◌⊗◌
  infix 72 ◌⊙◌
  infix 73 ◌⟶◌
  unfoldable pub ◌⊗◌ : Vec A → Vec A → A
  a ⊗ b = cross N.ops a b

  unfoldable pub ◌⟶◌ : Vec A → Vec A → Vec A
  v ⟶ w = less N.ops w v

  unfoldable pub ◌⊙◌ : Vec A → Vec A → A
  f ⊙ v = dot N.ops f v
