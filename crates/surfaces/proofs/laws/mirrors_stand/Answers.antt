use Rattle.surfaces.proofs.MirroredLawful.{mirrored_lawful, mirrored_twice}
use Rattle.surfaces.proofs.laws.mirrors_stand.Goals as goal

pub returns : goal.returns
returns c = record { lawful = mirrored_lawful; twice = mirrored_twice }
