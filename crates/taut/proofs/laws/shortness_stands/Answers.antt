use Rattle.taut.proofs.AtNumbers.{shortness_here}
use Rattle.taut.proofs.laws.shortness_stands.Goals as goal

pub returns : goal.returns
returns c = shortness_here
