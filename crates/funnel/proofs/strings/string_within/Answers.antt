use Rattle.std.proofs.Common.{◌<◌, ◌≤◌, length, arith, rules}
use Rattle.words.specs.declared.sorts.Crossing.{Crossing}
use Rattle.funnel.proofs.ReadBack.{but_last}
use Rattle.funnel.proofs.FoundStrings.{enough, found_none, found_some, found_taut}
use Rattle.funnel.proofs.strings.string_within.Goals as goal

abbrev none : Crossing
none = record { left = record { 0 = 0 }; entered = record { 0 = 0 } }

pub returns-in_default : goal.returns-in_default
returns-in_default g c =
    let empty : length c.args.crossings.now < 1 = search rules in
    let found = found_none _ _ _ _ _ empty in
    record { found = found; taut = found_taut _ (g.M.Mesh.sound _).sound _ _ _ _ _ _ found }

pub returns : goal.returns
returns g c =
    let some : 1 ≤ length c.args.crossings.now = search rules in
    let room = enough (length c.args.crossings.now) (length c.args.out.now) (length c.args.working.now) c.requires in
    let front = c.split_at_mut-slots.ensures.front_len in
    let back = c.split_at_mut-slots.ensures.back_len in
    let found = found_some _ _ _ _ _ _ _ c.portal_of-portal.result c.open-chains.result c.read_back.new.chains c.meet_start.new.self _ _ _ _ _ (but_last c.args.crossings.now none some) c.portal_of-portal.ensures c.open-chains.ensures.opens c.open-chains.ensures.room c.read_back.ensures.reads c.read_back.ensures.room c.meet_start.ensures.settles c.write.ensures
    (omega (arith, front)) (omega (arith, front, back, room.1)) room.0 in
    record { found = found; taut = found_taut _ (g.M.Mesh.sound _).sound _ _ _ _ _ _ found }
