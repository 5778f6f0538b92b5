-- seen     a list as it is read from a side: from its front on the left, from its back on the right
use Rattle.std.specs.Prelude.{List, reverse}
use Rattle.taut.specs.declared.Side.{Side}
use Rattle.taut.specs.declared.Side.TheVariants.{Left, Right}

abbrev pub seen : {X : Type 0} → Side → List X → List X
seen Left l = l
seen Right l = reverse l
