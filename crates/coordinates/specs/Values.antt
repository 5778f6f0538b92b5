-- value     the number that a number of the code is
-- packed_value   the number that a coordinate is as a point keeps it
-- InRange   both parts of a number lie from −most to most, and 64 bits hold these and their opposites
-- Fitted    a number of the code is answered exactly where the number is in range, and it is that number
use Rattle.std.specs.Prelude.{◌≡◌, ℕ, ◌<◌, ◌^◌, Some, None, Option}
use Rattle.coordinates.specs.declared.Surd.{Surd}
use Rattle.coordinates.specs.declared.Packed.{Packed}
use Rattle.algebra.specs.Bounds.{Within}
use Rattle.algebra.specs.Number.{Number, number}

abbrev pub value : {most : ℕ} → Surd most → Number
value a = number a.p a.q

abbrev pub packed_value : Packed → Number
packed_value a = number a.p a.q

abbrev pub InRange : ℕ → Number → Type 0
InRange most a = (most < 2 ^ 63) × Within most a.p × Within most a.q

abbrev pub Fitted : {most : ℕ} → Option (Surd most) → Number → Type 0
Fitted {most} None a = InRange most a → ⊥
Fitted {most} (Some r) a = value r ≡ a
