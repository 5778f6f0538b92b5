use Rattle.std.proofs.Common.{◌+◌, true}
use Rattle.funnel.specs.Chains.{SameRoom, Turns}
use Rattle.funnel.proofs.Working.settle.Given as goal

abbrev pub invariant-loop-side : goal.invariant-loop-side
invariant-loop-side g l =
    Turns g.P.PointKind.at l.side (g.P.PointKind.at l.from) l.initial.self l.self true
    × SameRoom l.initial.self l.self

abbrev pub decreases-loop-side : goal.decreases-loop-side
decreases-loop-side g l = l.self.chains.near + l.self.chains.far
