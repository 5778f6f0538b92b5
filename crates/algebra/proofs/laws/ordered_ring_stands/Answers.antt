use Rattle.algebra.proofs.Quadratics.{ordered_ring}
use Rattle.algebra.proofs.laws.ordered_ring_stands.Goals as goal

pub returns : goal.returns
returns c = ordered_ring
