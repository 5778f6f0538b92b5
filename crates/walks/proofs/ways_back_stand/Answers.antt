use Rattle.walks.proofs.WaysBack.{back_law}
use Rattle.walks.proofs.ways_back_stand.Goals as goal

pub returns : goal.returns
returns c = back_law
