use Rattle.taut.proofs.AtNumbers.{sheet_strings_here}
use Rattle.taut.proofs.laws.sheet_strings_stand.Goals as goal

pub returns : goal.returns
returns c = sheet_strings_here
