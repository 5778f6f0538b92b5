use Rattle.taut.proofs.AtNumbers.{fan_parts_here}
use Rattle.taut.proofs.laws.fan_parts_stand.Goals as goal

pub returns : goal.returns
returns c = fan_parts_here
