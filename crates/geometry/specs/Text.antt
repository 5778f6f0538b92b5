-- turn_word    a turn as text
use Rattle.std.specs.Prelude.{ℕ, List, codes}
use Rattle.geometry.specs.declared.Turn.{Turn}
use Rattle.geometry.specs.declared.Turn.TheVariants.{Left, Straight, Right}

abbrev pub turn_word : Turn → List ℕ
turn_word Left = codes "left"
turn_word Straight = codes "straight"
turn_word Right = codes "right"
