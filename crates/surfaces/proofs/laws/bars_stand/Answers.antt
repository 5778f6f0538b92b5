use Rattle.surfaces.proofs.BarredLawful.{barred_lawful}
use Rattle.surfaces.proofs.BarredLists.{bars_both_sides, barred_again}
use Rattle.surfaces.proofs.laws.bars_stand.Goals as goal

pub returns : goal.returns
returns c = record { lawful = barred_lawful; sides = bars_both_sides; again = barred_again }
