use Rattle.words.proofs.EqualReductions.{reductions}
use Rattle.words.proofs.reducing.reductions_stand.Goals as goal

pub returns : goal.returns
returns g c = reductions g.L.Letter.opposed g.L.Letter.equal g.met.L.Letter.lawful
