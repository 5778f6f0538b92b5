use Rattle.walks.proofs.Sleeves.{sleeve_law}
use Rattle.walks.proofs.sleeves_stand.Goals as goal

pub returns : goal.returns
returns c = sleeve_law
