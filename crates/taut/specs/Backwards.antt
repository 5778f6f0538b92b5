-- Reading a sleeve from its end to its start.
-- back_portal     the portal for whoever comes from the other side: left and right exchanged
-- backward        the portals in reverse order, each turned so
-- back_bend       the bend with its side exchanged
-- backward_bends  the bends in reverse order, each turned so
-- Backwards       read backwards a sleeve is a sleeve, and a taut string of it is one, at the numbers p + q√2
use Rattle.std.specs.Prelude.{List, map, reverse}
use Rattle.algebra.specs.Number.{Number, quadratics}
use Rattle.algebra.specs.Plane.{Vec}
use Rattle.taut.specs.Sleeve.{other, Portal, Sleeve}
use Rattle.taut.specs.TautString.{Bend, TautString}

abbrev pub back_portal : {A : Type 0} → Portal A → Portal A
back_portal p = record { left = p.right; right = p.left }

abbrev pub backward : {A : Type 0} → List (Portal A) → List (Portal A)
backward ps = reverse (map back_portal ps)

abbrev pub back_bend : {A : Type 0} → Bend A → Bend A
back_bend b = record { side = other b.side; vertex = b.vertex }

abbrev pub backward_bends : {A : Type 0} → List (Bend A) → List (Bend A)
backward_bends bs = reverse (map back_bend bs)

pub record Backwards : Type 0 where
  pub sleeve : (s e : Vec Number) (ps : List (Portal Number)) → Sleeve quadratics s ps e → Sleeve quadratics e (backward ps) s
  pub string : (s e : Vec Number) (ps : List (Portal Number)) (bs : List (Bend Number)) → Sleeve quadratics s ps e → TautString quadratics s ps e bs
      → TautString quadratics e (backward ps) s (backward_bends bs)
