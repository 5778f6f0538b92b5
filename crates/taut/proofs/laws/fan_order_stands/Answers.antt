use Rattle.taut.proofs.AtNumbers.{fan_order_here}
use Rattle.taut.proofs.laws.fan_order_stands.Goals as goal

pub returns : goal.returns
returns c = fan_order_here
