-- funnel_of   the funnel at the first of a row of portals; a row without portals has the end point alone
-- Reads       where there are slots and places for all of them, the chains go from the funnel at a portal to the funnel at the first of the portals of crossings before it
-- as_bend     a corner, as a bend on a side
-- string_of   the bends that a funnel leaves: its near chain on the left, then those that are final
-- Written     places that hold bends in front and what they held behind
-- memory_refusal   the refusal of a pull through so many portals, of output places and of working places: the first that is short
-- Taut        where the crossings lead without a spur from one inner terminal to the other, what stands in the first m places is their taut string
-- Found       the bends of the list funnel stand in the first m places, and the places behind are kept
-- Writes      where the row has a near chain and there are places for its bends, they are written
use Rattle.std.specs.Prelude.{◌≡◌, ℕ, ◌+◌, ◌*◌, ◌<◌, ◌≤◌, min, cond, List, [], ◌∷◌, ◌++◌, map, length, take, drop, Some, None, Option, nat_lt}
use Rattle.base.specs.declared.ids.TriangleId.{TriangleId}
use Rattle.base.specs.declared.refusals.Refusal.{Refusal}
use Rattle.base.specs.declared.refusals.Refusal.TheVariants.{OutputShort, WorkingShort}
use Rattle.algebra.specs.Number.{Number, quadratics, sign}
use Rattle.geometry.specs.Plane.{Point}
use Rattle.deque.specs.Contents.{contents}
use Rattle.words.specs.declared.sorts.Crossing.{Crossing}
use Rattle.taut.specs.declared.Side.{Side}
use Rattle.taut.specs.declared.Side.TheVariants.{Left}
use Rattle.taut.specs.Sleeve.{Portal as Passage}
use Rattle.taut.specs.Funnel.{Funnel, funnel_at, funnel}
use Rattle.mesh.specs.Surface.{Surface}
use Rattle.walks.specs.Walks.{portals, Joins, TautOf}
use Rattle.funnel.specs.declared.Corner.{Corner}
use Rattle.funnel.specs.declared.Portal.{Portal}
use Rattle.funnel.specs.declared.Bend.{Bend}
use Rattle.funnel.specs.declared.Working.{Working}
use Rattle.funnel.specs.Corners.{portal_meant, bend_meant}
use Rattle.funnel.specs.Chains.{Stands}

abbrev pub funnel_of : Point → List (Passage Number) → Funnel Number
funnel_of e [] = record { near = []; final = []; far = [] }
funnel_of e (p ∷ ps) = funnel_at quadratics sign e p ps

module _ {P : Type 0} (at : P → Point) (f : Surface) where
  abbrev pub Reads : List Crossing → Portal P → Working P → Working P → Type 0
  Reads w q d d' = (e : Point) (n : ℕ) (ps : List (Passage Number)) → n + length w < length d.slots.now → n + length w ≤ length d.places.now + 1
      → Stands at e Left d n (funnel_at quadratics sign e (portal_meant at q) ps)
      → Stands at e Left d' (n + length w) (funnel_of e (portals f w ++ portal_meant at q ∷ ps))

module _ {P : Type 0} where
  abbrev pub as_bend : Side → Corner P → Bend
  as_bend t c = record { vertex = c.vertex; side = t }

  abbrev pub own_bend : Corner P → Bend
  own_bend c = as_bend c.side c

  abbrev pub string_of : Working P → List Bend
  string_of d = map (as_bend Left) (take d.chains.near (contents d.chains.row d.slots.now)) ++ map own_bend (contents d.chains.bends d.places.now)

pub record Written (bs : List Bend) (m : ℕ) (out out' : List Bend) : Type 0 where
  pub front : take m out' ≡ bs
  pub behind : drop m out' ≡ drop m out
  pub count : m ≡ length bs

module _ {P : Type 0} where
  abbrev pub Writes : Working P → ℕ → List Bend → List Bend → Type 0
  Writes d m out out' = d.chains.near ≤ length (contents d.chains.row d.slots.now) → length (string_of d) ≤ length out → Written (string_of d) m out out'

pub record Found (f : Surface) (s : Point) (w : List Crossing) (e : Point) (m : ℕ) (out out' : List Bend) : Type 0 where
  pub few : m ≤ length w
  pub bends : map (bend_meant f) (take m out') ≡ funnel quadratics sign s (portals f w) e
  pub behind : drop m out' ≡ drop m out

abbrev pub Taut : Surface → Point → List Crossing → Point → ℕ → List Bend → Type 0
Taut f s w e m out = (t u : TriangleId) → Joins f t s w u e → TautOf f s w e (map (bend_meant f) (take m out))

-- a number of places past 64 bits stops at the largest
abbrev pub working_places : ℕ → ℕ
working_places portals = min (2 * portals + 3) 18446744073709551615

abbrev pub memory_refusal : ℕ → ℕ → ℕ → Option Refusal
memory_refusal portals output working = cond (nat_lt output portals) (Some (OutputShort portals)) (cond (nat_lt working (2 * portals + 3)) (Some (WorkingShort (working_places portals))) None)
