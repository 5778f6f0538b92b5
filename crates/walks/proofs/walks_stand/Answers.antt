use Rattle.walks.proofs.WalkParts.{walk_laws}
use Rattle.walks.proofs.walks_stand.Goals as goal

pub returns : goal.returns
returns c = walk_laws
