use Rattle.walks.proofs.EqualWalks.{same_class}
use Rattle.walks.proofs.same_class_stands.Goals as goal

pub returns : goal.returns
returns c = same_class
