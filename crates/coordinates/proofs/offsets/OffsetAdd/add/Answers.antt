use Rattle.std.proofs.Common.{arith}
use Rattle.std.proofs.lemmas.Int.{ints}
use Rattle.algebra.proofs.Magnitudes.{same_number}
use Rattle.coordinates.proofs.offsets.OffsetAdd.add.Goals as goal

pub returns : goal.returns
returns c = same_number (omega (arith, ints)) (omega (arith, ints))
