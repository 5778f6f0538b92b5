use Rattle.taut.proofs.AtNumbers.{backwards_here}
use Rattle.taut.proofs.laws.backwards_stand.Goals as goal

pub returns : goal.returns
returns c = backwards_here
