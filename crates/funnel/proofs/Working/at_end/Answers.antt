use Rattle.std.proofs.Common.{◌<◌, length, arith}
use Rattle.funnel.proofs.OpenedChains.{alone}
use Rattle.funnel.proofs.Working.at_end.Goals as goal

pub returns-clause-begins : goal.returns-clause-begins
returns-clause-begins g c some =
    let done = c.push_front.ensures in
    let room : 0 < length c.args.slots.now = omega (arith, some, done.size) in
    alone g.P.PointKind.at _ _ _ _ _ _ c.push_front.result (c.new-row.ensures.empty _) (c.new.ensures.empty _) room done.verdict done.effect
