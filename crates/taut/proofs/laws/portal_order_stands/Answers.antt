use Rattle.taut.proofs.AtNumbers.{portal_order_here}
use Rattle.taut.proofs.laws.portal_order_stands.Goals as goal

pub returns : goal.returns
returns c = portal_order_here
