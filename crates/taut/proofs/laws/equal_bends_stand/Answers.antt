use Rattle.taut.proofs.AtNumbers.{equal_bends_here}
use Rattle.taut.proofs.laws.equal_bends_stand.Goals as goal

pub returns : goal.returns
returns c = equal_bends_here
