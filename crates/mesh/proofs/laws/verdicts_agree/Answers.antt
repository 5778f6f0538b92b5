use Rattle.mesh.proofs.OneVerdict.{verdicts_agree}
use Rattle.mesh.proofs.laws.verdicts_agree.Goals as goal

pub returns : goal.returns
returns c = verdicts_agree
