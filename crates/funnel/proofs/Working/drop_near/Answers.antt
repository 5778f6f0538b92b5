use Rattle.std.proofs.Common.{◌≡◌, true, false, rules}
use Rattle.algebra.specs.Number.{quadratics, sign}
use Rattle.taut.specs.Funnel.{bears}
use Rattle.funnel.proofs.FromTheRight.{taken}
use Rattle.funnel.proofs.SettledChains.{near_stays, near_drops}
use Rattle.funnel.proofs.Working.drop_near.Goals as goal

pub returns-then-stays-clause-turns : goal.returns-then-stays-clause-turns
returns-then-stays-clause-turns g c e n f le h =
    let at = g.P.PointKind.at in
    let test : bears quadratics sign c.args.side (at c.args.from) (at c.in-Some.corner.point) (at c.in-Some.next.point) ≡ true = search rules in
    near_stays at e c.args.side (at c.args.from) _ _ _ _ n f h c.in-Some.corner c.in-Some.next _ c.in-Some.ensures c.requires test

pub returns-clause-turns : goal.returns-clause-turns
returns-clause-turns g c e n f le h =
    let at = g.P.PointKind.at in
    let test : bears quadratics sign c.args.side (at c.args.from) (at c.in-Some.corner.point) (at c.in-Some.next.point) ≡ false = search rules in
    let first = c.in-Some.ensures in
    near_drops at e c.args.side (at c.args.from) _ _ _ _ n f h c.in-Some.corner c.in-Some.next _ first _ (taken _ _ _ c.in-Some.corner _ c.pop.result c.pop.ensures first) c.requires test
