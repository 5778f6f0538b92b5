use Rattle.std.proofs.Common.{◌≤◌, true, false, length, ◌∙◌, arith}
use Rattle.funnel.proofs.SettledChains.{turned_on, left_over}
use Rattle.funnel.proofs.Working.settle.Goals as goal

pub loop-side-preserved : goal.loop-side-preserved
loop-side-preserved g c =
    let at = g.P.PointKind.at in
    let turn = c.loop-side-test.ensures in (
      λ e n f le h. let a = c.loop-side.invariant.0 e n f le h in
          let room : n ≤ length c.loop-side.self.places.now = omega (arith, le, c.loop-side.invariant.1.1) in
          turned_on at e c.args.side (at c.args.from) _ _ _ _ _ _ _ _ n true f a (turn.turns e n a.now room a.holds),
      (turn.room.0 ∙ c.loop-side.invariant.1.0, turn.room.1 ∙ c.loop-side.invariant.1.1),
    )

pub returns-clause-settles : goal.returns-clause-settles
returns-clause-settles g c e n f le h =
    let at = g.P.PointKind.at in
    let a = c.loop-side.invariant.0 e n f le h in
    let room : n ≤ length c.loop-side.self.places.now = omega (arith, le, c.loop-side.invariant.1.1) in
    left_over at e c.args.side (at c.args.from) _ _ _ _ n f (turned_on at e c.args.side (at c.args.from) _ _ _ _ _ _ _ _ n false f a (c.loop-side-test.ensures.turns e n a.now room a.holds))
