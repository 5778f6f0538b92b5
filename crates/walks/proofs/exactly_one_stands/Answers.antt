use Rattle.walks.proofs.Sleeves.{exactly_one}
use Rattle.walks.proofs.exactly_one_stands.Goals as goal

pub returns : goal.returns
returns c = exactly_one
