-- edge_of     the half-edge of a cell that one of the code is
-- cell_of     the cell that a square of the code is
use Rattle.meshes.specs.declared.sheets.Edge.{Edge as Named}
use Rattle.meshes.specs.declared.sheets.Edge.TheVariants.{Bottom, Right, Down, Up, Top, Left}
use Rattle.meshes.specs.declared.sheets.Square.{Square}
use Rattle.surfaces.specs.Sheet.{Cell, cell, Edge, bottom, right, down, up, top, left}

abbrev pub edge_of : Named → Edge
edge_of Bottom = bottom
edge_of Right = right
edge_of Down = down
edge_of Up = up
edge_of Top = top
edge_of Left = left

abbrev pub cell_of : Square → Cell
cell_of q = cell q.column q.row
