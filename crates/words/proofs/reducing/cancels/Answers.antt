use Rattle.std.proofs.Common.{◌≡◌, ◌-◌, length, Some, rules}
use Rattle.std.specs.List.{slice_get}
use Rattle.words.proofs.LastLetterTells.{last_read}
use Rattle.words.proofs.reducing.cancels.Goals as goal

pub returns-in-Some : goal.returns-in-Some
returns-in-Some g c =
    let m = g.L.Letter in
    let read : slice_get c.args.word.now (length c.args.word.now - 1) ≡ Some c.in-Some.last.now = search rules in
    let test : c.same.result ≡ m.equal c.in-Some.last.now (m.opposed c.args.letter) = cc in
    last_read m.opposed m.equal c.args.word.now c.args.letter c.in-Some.last.now c.same.result read test
