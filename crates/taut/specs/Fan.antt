-- Rays are directions from one vertex. A row of them is read with a side: it turns to that side from each ray to the next.
-- Sweeps     the first ray and those after it turn to that side, each by less than a half turn
-- Sector     a direction lies between two rays, or on one of them
-- Clear      a direction lies in no sector between neighbours of the row
-- Within     it lies in one of them
-- origin     the step that goes nowhere
-- opposite   the direction turned about
-- Met        directions are met in their order, each in a sector after that of the one before
-- Fan        rays that sweep, and do not come round to the first again: together they span less than a full turn
-- Run        the rays of a run, the portals that share an end: the far ends after that of the first portal, and the vertex or end point after the run
-- Round      the rays of a run, from the vertex or start before it, make a fan
-- FanBound   every run of a sleeve, on either side, makes a fan
use Rattle.std.specs.Prelude.{◌⊎◌, List, [], ◌∷◌}
use Rattle.algebra.specs.Arithmetic.{Arithmetic, Nn}
use Rattle.algebra.specs.Plane.{Vec, less, ◌⟶◌ as ◌⇢◌}
use Rattle.taut.specs.declared.Side.{Side}
use Rattle.taut.specs.Sleeve.{other, Portal, end, veer, Keeps}

module _ (N : Arithmetic) (t : Side) where
  open N use {carrier as A, Pos}

  abbrev pub Sweeps : Vec A → List (Vec A) → Type 0
  Sweeps r [] = Unit {0}
  Sweeps r (s ∷ rs) = Pos (veer N t r s) × Sweeps s rs

  abbrev pub Sector : Vec A → Vec A → Vec A → Type 0
  Sector u r s = Nn N (veer N t r u) × Nn N (veer N t u s)

  abbrev pub Clear : Vec A → Vec A → List (Vec A) → Type 0
  Clear u r [] = Unit {0}
  Clear u r (s ∷ rs) = ¬ (Sector u r s) × Clear u s rs

  abbrev pub Within : Vec A → Vec A → List (Vec A) → Type 0
  Within u r [] = ⊥
  Within u r (s ∷ rs) = Sector u r s ⊎ Within u s rs

  abbrev pub Met : List (Vec A) → Vec A → List (Vec A) → Type 0
  Met [] r [] = Unit {0}
  Met (u ∷ us) r [] = ⊥
  Met [] r (s ∷ rs) = Unit {0}
  Met (u ∷ us) r (s ∷ rs) = (Sector u r s × Met us s rs) ⊎ Met (u ∷ us) s rs

  abbrev pub Fan : List (Vec A) → Type 0
  Fan [] = Unit {0}
  Fan (h ∷ []) = Unit {0}
  Fan (h ∷ r ∷ rs) = Sweeps h (r ∷ rs) × Clear h r rs

module _ (N : Arithmetic) where
  open N use {carrier as A}

  abbrev pub origin : Vec A
  origin = record { x = N.ops.nil; y = N.ops.nil }

  abbrev pub opposite : Vec A → Vec A
  opposite u = less N.ops origin u

  infix 73 ◌⟶◌
  abbrev ◌⟶◌ : Vec A → Vec A → Vec A
  v ⟶ w = ◌⇢◌ N v w

  -- round the end on side t of the first portal, which the portals keep until one of them replaces it, or the sleeve ends
  pub data Run (t : Side) (e : Vec A) : Portal A → List (Portal A) → List (Vec A) → Type 0 where
    ends : {p : Portal A} → Run t e p [] (((end t p).point ⟶ e) ∷ [])
    leaves : {p q : Portal A} {ps : List (Portal A)} → Keeps N (other t) p q → Run t e p (q ∷ ps) (((end t p).point ⟶ (end t q).point) ∷ [])
    goes_on : {p q : Portal A} {ps : List (Portal A)} {rs : List (Vec A)} → Keeps N t p q → Run t e q ps rs → Run t e p (q ∷ ps) (((end t p).point ⟶ (end (other t) q).point) ∷ rs)

  -- y is the vertex or start before the portal p, where the run begins
  abbrev pub Round : Side → Vec A → Portal A → List (Portal A) → Vec A → Type 0
  Round t y p ps e = (rs : List (Vec A)) → Run t e p ps rs → Fan N t (((end t p).point ⟶ y) ∷ ((end t p).point ⟶ (end (other t) p).point) ∷ rs)

  -- a portal that replaces the end on a side begins a run there
  abbrev pub LaterRounds : Portal A → List (Portal A) → Vec A → Type 0
  LaterRounds p [] e = Unit {0}
  LaterRounds p (q ∷ ps) e = ((t : Side) → Keeps N (other t) p q → Round t (end t p).point q ps e) × LaterRounds q ps e

  abbrev pub FanBound : Vec A → List (Portal A) → Vec A → Type 0
  FanBound s [] e = Unit {0}
  FanBound s (p ∷ ps) e = ((t : Side) → Round t s p ps e) × LaterRounds p ps e
