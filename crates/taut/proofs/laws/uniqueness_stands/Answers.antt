use Rattle.taut.proofs.AtNumbers.{uniqueness_here}
use Rattle.taut.proofs.laws.uniqueness_stands.Goals as goal

pub returns : goal.returns
returns c = uniqueness_here
