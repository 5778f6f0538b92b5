use Rattle.std.proofs.Common.{◌≡◌, ◌<◌, length, take, sym, refl, ◌∙◌, arith, rules}
use Rattle.words.specs.Words.{reduction}
use Rattle.words.proofs.EqualReductions.{reduced_reduction, homotopic_reduction, homotopic_like}
use Rattle.words.proofs.ReducingInPlace.{goes_on, ends}
use Rattle.words.proofs.reducing.reduce.Goals as goal

pub loop-i-preserved : goal.loop-i-preserved
loop-i-preserved g c =
    let within : c.loop-i.i < length c.loop-i.word = omega arith in
    search (rules, goes_on g.L.Letter.opposed g.L.Letter.equal g.met.L.Letter.lawful)

pub returns-clause-reduced : goal.returns-clause-reduced
returns-clause-reduced g c =
    let word : take c.loop-i.n c.loop-i.word ≡ reduction g.L.Letter.opposed g.L.Letter.equal c.args.word.now = search (rules, ends) in
    λ before after x e. reduced_reduction _ _ g.met.L.Letter.lawful c.args.word.now before after x (sym word ∙ e)

pub returns-clause-homotopic : goal.returns-clause-homotopic
returns-clause-homotopic g c =
    let word : take c.loop-i.n c.loop-i.word ≡ reduction g.L.Letter.opposed g.L.Letter.equal c.args.word.now = search (rules, ends) in
    homotopic_like _ refl (sym word) (homotopic_reduction _ _ g.met.L.Letter.lawful c.args.word.now)
