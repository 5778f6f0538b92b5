-- One turn of the funnel's loop, for code that runs it: dropping one corner and settling the rest gives the same as settling all.
-- With the near chain in hand: a corner is dropped, or it stays and all is settled. At the apex: the next corner of the far chain is the new apex, or all is settled.
use Rattle.std.proofs.Common.{◌≡◌, true, false, cond, List, [], ◌∷◌, ap}
use Rattle.algebra.specs.Arithmetic.{Arithmetic}
use Rattle.algebra.specs.Plane.{Vec}
use Rattle.algebra.specs.declared.Sign.{Sign}
use Rattle.taut.specs.declared.Side.{Side}
use Rattle.taut.specs.Sleeve.{other, Vertex}
use Rattle.taut.specs.TautString.{Bend, aim}
use Rattle.taut.specs.Funnel.{next, bears, advance, settle}

module _ (N : Arithmetic) (sign : N.carrier → Sign) (e : Vec N.carrier) (t : Side) (y : Vec N.carrier) where
  open N use {carrier as A}

  pub drops_corner : (c : Vertex A) (near far : List (Vertex A)) (fb : List (Bend A)) → bears N sign t y c.point (next N e near fb) ≡ false → settle N sign e t y (c ∷ near) fb far ≡ settle N sign e t y near fb far
  drops_corner c near far fb is = ap (λ b. cond b (record { near = c ∷ near; final = fb; far = far }) (settle N sign e t y near fb far)) is

  pub keeps_corner : (c : Vertex A) (near far : List (Vertex A)) (fb : List (Bend A)) → bears N sign t y c.point (next N e near fb) ≡ true → settle N sign e t y (c ∷ near) fb far ≡ record { near = c ∷ near; final = fb; far = far }
  keeps_corner c near far fb is = ap (λ b. cond b (record { near = c ∷ near; final = fb; far = far }) (settle N sign e t y near fb far)) is

  pub moves_apex : (z : Vertex A) (far : List (Vertex A)) (fb : List (Bend A)) → bears N sign (other t) y z.point (aim N e fb) ≡ true → settle N sign e t y [] fb (z ∷ far) ≡ settle N sign e t y [] (record { side = other t; vertex = z } ∷ fb) far
  moves_apex z far fb is = ap (λ b. cond b (advance N sign e t y (record { side = other t; vertex = z } ∷ fb) far) (record { near = []; final = fb; far = z ∷ far })) is

  pub keeps_apex : (z : Vertex A) (far : List (Vertex A)) (fb : List (Bend A)) → bears N sign (other t) y z.point (aim N e fb) ≡ false → settle N sign e t y [] fb (z ∷ far) ≡ record { near = []; final = fb; far = z ∷ far }
  keeps_apex z far fb is = ap (λ b. cond b (advance N sign e t y (record { side = other t; vertex = z } ∷ fb) far) (record { near = []; final = fb; far = z ∷ far })) is
