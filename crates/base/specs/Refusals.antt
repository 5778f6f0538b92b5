-- number      by which a refusal is known
-- place       what it points at: the thing that is wrong, or how many places are needed
-- refusal     the refusal in an answer, if there is one
use Rattle.std.specs.Prelude.{ℕ, Some, None, Ok, Err, Option, Result}
use Rattle.base.specs.declared.refusals.Axis.{Axis}
use Rattle.base.specs.declared.refusals.Axis.TheVariants.{X, Y}
use Rattle.base.specs.declared.refusals.SheetParameter.{SheetParameter}
use Rattle.base.specs.declared.refusals.SheetParameter.TheVariants.{Columns, Rows, Pitch}
use Rattle.base.specs.declared.refusals.Refusal.{Refusal}
use Rattle.base.specs.declared.refusals.Refusal.TheVariants.{MeshLimits, PointRange, VertexRange, CornerRange, TriangleTurn, TwinMismatch, ClosedFan, FullTurn, SheetRange, NoPortal, BarsFull, NoStart, NoTriangle, TerminalOutside, NoSide, BoundarySide, RouteFull, OutputShort, WorkingShort, ListFull}

abbrev pub number : Refusal → ℕ
number MeshLimits = 1
number (PointRange axis) = 2
number (VertexRange vertex) = 2
number (CornerRange corner) = 3
number (TriangleTurn triangle) = 4
number (TwinMismatch side) = 5
number (ClosedFan corner vertex) = 6
number (FullTurn corner vertex) = 7
number (SheetRange parameter) = 8
number (NoPortal side) = 9
number BarsFull = 10
number NoStart = 11
number (NoTriangle triangle) = 12
number (TerminalOutside triangle) = 13
number (NoSide side) = 14
number (BoundarySide side) = 15
number RouteFull = 16
number (OutputShort needed) = 17
number (WorkingShort needed) = 18
number (ListFull size) = 19

abbrev pub axis_place : Axis → ℕ
axis_place X = 0
axis_place Y = 1

abbrev pub parameter_place : SheetParameter → ℕ
parameter_place Columns = 0
parameter_place Rows = 1
parameter_place Pitch = 2

abbrev pub place : Refusal → ℕ
place MeshLimits = 0
place (PointRange axis) = axis_place axis
place (VertexRange vertex) = vertex.0
place (CornerRange corner) = corner.0
place (TriangleTurn triangle) = triangle.0
place (TwinMismatch side) = side.0
place (ClosedFan corner vertex) = corner.0
place (FullTurn corner vertex) = corner.0
place (SheetRange parameter) = parameter_place parameter
place (NoPortal side) = side.0
place BarsFull = 64
place NoStart = 0
place (NoTriangle triangle) = triangle.0
place (TerminalOutside triangle) = triangle.0
place (NoSide side) = side
place (BoundarySide side) = side.0
place RouteFull = 2048
place (OutputShort needed) = needed
place (WorkingShort needed) = needed
place (ListFull size) = size

abbrev pub refusal : {X : Type 0} → Result X Refusal → Option Refusal
refusal (Ok x) = None
refusal (Err e) = Some e
