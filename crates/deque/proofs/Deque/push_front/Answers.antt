use Rattle.std.proofs.Common.{length, arith, rules, ◌<◌}
use Rattle.std.proofs.lemmas.Bool.Decides.{nat_tests}
use Rattle.deque.proofs.RingOfPlaces.{Next}
use Rattle.deque.proofs.ListEquations.{pushed_front}
use Rattle.deque.proofs.Deque.push_front.Goals as goal

pub returns-clause-effect : goal.returns-clause-effect
returns-clause-effect g c =
    let room : c.read_over-list.result.len < length c.args.slots.now = omega (arith, c.if-is_full.ensures) in
    let next : Next (length c.args.slots.now) c.unwrap_or-i.result c.read_over-list.result.head = grind (arith, nat_tests) in
    search (rules, pushed_front)
