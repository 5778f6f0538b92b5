use Rattle.std.proofs.Common.{subst, arith}
use Rattle.std.proofs.lemmas.Int.{ints}
use Rattle.coordinates.specs.Values.{Fitted}
use Rattle.algebra.proofs.Magnitudes.{same_number}
use Rattle.coordinates.proofs.numbers.Quadratic.checked_add.Goals as goal

pub returns : goal.returns
returns c = subst (Fitted c.new.result) (same_number (omega (arith, ints)) (omega (arith, ints))) c.new.ensures
