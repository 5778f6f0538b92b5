use Rattle.taut.proofs.AtNumbers.{existence_here}
use Rattle.taut.proofs.laws.existence_stands.Goals as goal

pub returns : goal.returns
returns c = existence_here
