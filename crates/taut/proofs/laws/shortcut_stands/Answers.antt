use Rattle.taut.proofs.AtNumbers.{shortcut_here}
use Rattle.taut.proofs.laws.shortcut_stands.Goals as goal

pub returns : goal.returns
returns c = shortcut_here
