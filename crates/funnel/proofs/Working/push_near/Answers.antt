use Rattle.std.proofs.Common.{◌≡◌, ◌+◌, ◌≤◌, length, arith, rules}
use Rattle.funnel.proofs.GainedEnds.{put_near}
use Rattle.funnel.proofs.Working.push_near.Goals as goal

pub returns-clause-pushes : goal.returns-clause-pushes
returns-clause-pushes g c e n f room h =
    let fits : length c.args.self.now.slots.now ≤ 18446744073709551615 = search rules in
    let small : c.args.self.now.chains.near + 1 ≤ 18446744073709551615 = omega (arith, fits, room, h.few) in
    let more : c.saturating_add-self.result ≡ c.args.self.now.chains.near + 1 = omega (arith, small, c.saturating_add-self.ensures) in
    put_near g.P.PointKind.at e c.args.side _ _ _ _ n f h _ c.args.corner _ c.in-Ok.ensures.effect more
