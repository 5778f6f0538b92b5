use Rattle.std.proofs.Common.{arith}
use Rattle.taut.specs.declared.Side.TheVariants.{Left, Right}
use Rattle.funnel.proofs.Working.open.Goals as goal

pub returns-clause-opens : goal.returns-clause-opens
returns-clause-opens g c room =
    let first = c.at_end-chains.ensures in
    let left = c.push_near.ensures in
    let turned = c.flip.ensures in
    let right = c.push_near-2.ensures in
    let back = c.flip-2.ensures in
    back.flips _ Right 2 _ (right.pushes _ 1 _ (omega (arith, room, back.room.0, right.room.0))
    (turned.flips _ Left 1 _ (left.pushes _ 0 _ (omega (arith, room, back.room.0, right.room.0, turned.room.0, left.room.0)) (first.begins (omega (arith, room, back.room.0, right.room.0, turned.room.0, left.room.0))))))
