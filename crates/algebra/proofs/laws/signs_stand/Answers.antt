use Rattle.algebra.proofs.Quadratics.{signs_say}
use Rattle.algebra.proofs.laws.signs_stand.Goals as goal

pub returns : goal.returns
returns c = signs_say
