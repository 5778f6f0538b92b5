-- Both sorts of letters are lawful: the opposite of the opposite is the letter, and the test tells equal letters.
use Rattle.std.proofs.Common.{refl, arith}
use Rattle.std.proofs.lemmas.Bool.Decides.{nat_tests}
use Rattle.words.specs.Words.{Lawful}
use Rattle.words.specs.Sorts.{recrossed, same_crossing, inverse, same_generator}

pub crossing_lawful : Lawful recrossed same_crossing
crossing_lawful = record { twice = λ c. refl; decides = λ c d. grind (arith, nat_tests) }

pub generator_lawful : Lawful inverse same_generator
generator_lawful = record { twice = λ g. grind (arith, nat_tests); decides = λ g h. grind (arith, nat_tests) }
