use Rattle.std.proofs.Common.{◌≡◌, true, false, refl, ◌∙◌, rules}
use Rattle.algebra.specs.Number.{quadratics, sign}
use Rattle.taut.specs.Funnel.{bears}
use Rattle.taut.specs.Sleeve.{other}
use Rattle.funnel.proofs.FromTheRight.{taken}
use Rattle.funnel.proofs.SettledChains.{apex_stays, apex_moves}
use Rattle.funnel.proofs.Working.move_apex.Goals as goal

pub returns-then-not-blocks-clause-turns : goal.returns-then-not-blocks-clause-turns
returns-then-not-blocks-clause-turns g c e n f le h =
    let at = g.P.PointKind.at in
    let test : bears quadratics sign (other c.args.side) (at c.args.from) (at c.in-Some.next.point) (at c.in-Some.apex.point) ≡ false = search rules in
    apex_stays at e c.args.side (at c.args.from) _ _ _ _ n f h c.in-Some.apex c.in-Some.next _ c.in-Some.ensures c.requires.0 test

pub returns-clause-turns : goal.returns-clause-turns
returns-clause-turns g c e n f le h =
    let at = g.P.PointKind.at in
    let test : bears quadratics sign (other c.args.side) (at c.args.from) (at c.in-Some.next.point) (at c.in-Some.apex.point) ≡ true = search rules in
    let first = c.in-Some.ensures in
    let passed = c.pass_apex.ensures in
    apex_moves at e c.args.side (at c.args.from) _ _ _ _ n f h
    c.in-Some.apex c.in-Some.next _ first _ _ _ _ (record { vertex = c.in-Some.next.vertex; side = c.other-across.result; point = c.in-Some.next.point })
    (taken _ _ _ c.in-Some.apex _ c.pass_apex.result passed.row first)
    (passed.bends ∙ c.in-Ok.ensures.effect) passed.near passed.far refl c.other-across.ensures refl c.requires.0 test
