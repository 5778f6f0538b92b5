-- A string as a thread: it is led along the portals, and passes each of them or bends there.
-- This form is walked along in every proof; it says the same as the indices of specs/TautString (proved in IndexForm).
use Rattle.std.proofs.Common.{◌≡◌, List, [], ◌∷◌, refl}
use Rattle.algebra.specs.Arithmetic.{Arithmetic}
use Rattle.algebra.specs.Plane.{Vec}
use Rattle.taut.specs.Sleeve.{Portal, end, Ahead, Sleeve}
use Rattle.taut.specs.TautString.{Bend, Crosses, Turns, aim, Stretched}

module _ (N : Arithmetic) where
  open N use {carrier as A}

  pub data Thread (e : Vec A) : Vec A → List (Portal A) → List (Bend A) → Type 0 where
    arrive : {v : Vec A} → Thread e v [] []
    pass : {v : Vec A} {p : Portal A} {ps : List (Portal A)} {bs : List (Bend A)} → Crosses N v (aim N e bs) p → Thread e v ps bs → Thread e v (p ∷ ps) bs
    bend_at : {v : Vec A} {p : Portal A} {ps : List (Portal A)} {b : Bend A} {bs : List (Bend A)} → Crosses N v b.vertex.point p → end b.side p ≡ b.vertex → Turns N b.side v b.vertex.point (aim N e bs) → Thread e b.vertex.point ps bs → Thread e v (p ∷ ps) (b ∷ bs)

  -- the first piece crosses the first portal
  pub crossing : {e v : Vec A} {p : Portal A} {ps : List (Portal A)} {bs : List (Bend A)} → Thread e v (p ∷ ps) bs → Crosses N v (aim N e bs) p
  crossing (pass c st) = c
  crossing (bend_at c is tu st) = c

  pub arrives : {e v : Vec A} {bs : List (Bend A)} → Thread e v [] bs → aim N e bs ≡ e
  arrives arrive = refl

  pub first_turn : {e v : Vec A} {ps : List (Portal A)} {b : Bend A} {bs : List (Bend A)} → Thread e v ps (b ∷ bs) → Turns N b.side v b.vertex.point (aim N e bs)
  first_turn (pass c st) = first_turn st
  first_turn (bend_at c is tu st) = tu

  pub record Taut (s : Vec A) (ps : List (Portal A)) (e : Vec A) (bs : List (Bend A)) : Type 0 where
    pub thread : Thread e s ps bs
    pub stretched : Stretched N s ps bs e

  -- what lies before a string at a portal, or behind the last
  abbrev pub Onward : Vec A → List (Portal A) → Type 0
  Onward e [] = Unit {0}
  Onward e (p ∷ ps) = Ahead N e p ps

  pub onward_next : (e : Vec A) (p : Portal A) (ps : List (Portal A)) → Ahead N e p ps → Onward e ps
  onward_next e p [] h = tt
  onward_next e p (q ∷ ps) h = h.1

  pub onward_of : (s e : Vec A) (ps : List (Portal A)) → Sleeve N s ps e → Onward e ps
  onward_of s e [] h = tt
  onward_of s e (p ∷ ps) h = h.1
