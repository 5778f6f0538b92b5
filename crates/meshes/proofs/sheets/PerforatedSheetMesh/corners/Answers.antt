use Rattle.std.proofs.Common.{◌/◌, ◌<◌, arith}
use Rattle.surfaces.specs.Sheet.{cells}
use Rattle.surfaces.proofs.SheetAnswers.{lower_corners, upper_corners}
use Rattle.meshes.specs.Cells.{cell_of}
use Rattle.meshes.proofs.sheets.PerforatedSheetMesh.corners.Goals as goal

pub returns-then-t-eq0 : goal.returns-then-t-eq0
returns-then-t-eq0 c =
    let s = c.args.self.now in
    let l : c.args.t.0 / 2 < cells s.columns s.rows = omega (arith, c.cells.ensures.count) in
    lower_corners s.columns s.rows s.pitch c.args.t (cell_of c.square-square.result) l c.square-square.ensures.is
    c.vertex-lower_left.result c.vertex.result c.vertex-upper_right.result
    c.if-t-eq0.true (cc) (cc) (cc)

pub returns-else-t-eq0 : goal.returns-else-t-eq0
returns-else-t-eq0 c =
    let s = c.args.self.now in
    let l : c.args.t.0 / 2 < cells s.columns s.rows = omega (arith, c.cells.ensures.count) in
    upper_corners s.columns s.rows s.pitch c.args.t (cell_of c.square-square.result) l c.square-square.ensures.is
    c.vertex-lower_left.result c.vertex-upper_right.result c.vertex-else-t-eq0.result
    (omega (arith, c.if-t-eq0.false)) (cc) (cc) (cc)
