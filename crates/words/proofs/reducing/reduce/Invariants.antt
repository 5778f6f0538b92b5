use Rattle.words.proofs.ReducingInPlace.{Reading}
use Rattle.words.proofs.reducing.reduce.Given as goal

abbrev pub invariant-loop-i : goal.invariant-loop-i
invariant-loop-i g l = Reading g.L.Letter.opposed g.L.Letter.equal l.initial.word l.i l.n l.word
