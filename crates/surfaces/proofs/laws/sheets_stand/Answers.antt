use Rattle.surfaces.proofs.SheetCells.{cells_by_number}
use Rattle.surfaces.proofs.SheetEnds.{twins_by_ends}
use Rattle.surfaces.proofs.SheetLawful.{sheet_lawful}
use Rattle.surfaces.proofs.laws.sheets_stand.Goals as goal

pub returns-clause-lawful : goal.returns-clause-lawful
returns-clause-lawful c = sheet_lawful

pub returns-clause-cells : goal.returns-clause-cells
returns-clause-cells c = cells_by_number

pub returns-clause-twins : goal.returns-clause-twins
returns-clause-twins c = twins_by_ends
