use Rattle.std.proofs.Common.{map, reverse}
use Rattle.funnel.proofs.ReadBack.{Reading}
use Rattle.funnel.proofs.strings.read_back.Given as goal

abbrev pub invariant-loop-crossing : goal.invariant-loop-crossing
invariant-loop-crossing g l =
    Reading g.M.Point.PointKind.at (g.M.Mesh.surface l.mesh) l.initial.present l.initial.chains (reverse (map (λ b. b.now) l.yielded)) l.present l.chains
