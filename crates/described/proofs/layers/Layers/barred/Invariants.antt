use Rattle.std.proofs.Common.{◌≡◌}
use Rattle.described.proofs.SetBars.{Setting}
use Rattle.described.proofs.layers.Layers.barred.Given as goal

abbrev pub invariant-loop-side : goal.invariant-loop-side
invariant-loop-side g l = Setting (g.M.Mesh.surface l.initial.mesh.below) l.self.bars.items l.side-index (g.M.Mesh.surface l.mesh.below) l.mesh.bars.items × (l.mesh.below ≡ l.initial.mesh.below)
