use Rattle.std.proofs.Common.{arith}
use Rattle.std.proofs.lemmas.Int.{ints}
use Rattle.funnel.proofs.StringLengths.{same_number}
use Rattle.funnel.proofs.lengths.grown.Goals as goal

pub returns : goal.returns
returns c =
    let r = c.requires in
    same_number _ _ _ _ (omega (arith, ints, r.0, r.1)) (omega (arith, ints, r.0, r.1))
