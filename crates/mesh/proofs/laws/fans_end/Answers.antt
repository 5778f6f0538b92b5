use Rattle.mesh.proofs.FansEnding.{fans_end}
use Rattle.mesh.proofs.laws.fans_end.Goals as goal

pub returns : goal.returns
returns c = fans_end
