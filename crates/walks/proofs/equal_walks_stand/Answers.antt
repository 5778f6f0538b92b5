use Rattle.walks.proofs.EqualWalks.{equal_walks}
use Rattle.walks.proofs.equal_walks_stand.Goals as goal

pub returns : goal.returns
returns c = equal_walks
