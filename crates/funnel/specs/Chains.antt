-- SameRoom    neither memory of chains has changed its size
-- bend_of     a corner as a bend
-- meant       the funnel that corners of the near chain, of bends and of the far chain are
-- Holds       a row of corners, the numbers of corners in its chains and a list of bends stand for a funnel towards an end point, of n vertices at most:
--   nears, apex, fars   the row in its three parts
--   counts      the numbers of corners in its chains
--   top         the apex is the first bend, or the end point
--   is          the chains and the bends are those of the funnel
--   few         chains and bends have n vertices together, or fewer
-- Stands      what chains hold, as seen from a side, stands for a funnel
-- settled     what a new near end leaves of a funnel
-- Turned      what is held now leaves the same funnel; where the answer is no, nothing is left to do
-- Turns       one turn of the loop does so, whatever the end point and the funnel, where there are places for all its vertices
-- Settles     there, the chains stand for the funnel that is left
-- Pushes      where there is a slot for it, a new corner is the near end
-- Flips       the chains stand for the same funnel as it is seen from the other side
-- Nears       where there are slots and places for one more vertex, a new near end settles the funnel and is put there
-- Gains       the same for a new end on either side; the funnel is kept as it is seen from the left
-- Widens      the same from a portal to the portal before it
-- no_chains   the funnel of an end point alone
-- Begins      where there is a slot for it, the chains stand for the end point alone
-- Opens       where there are slots for it, the chains stand for the funnel at the last portal
use Rattle.std.specs.Prelude.{◌≡◌, ℕ, ◌+◌, ◌<◌, ◌≤◌, Bool, false, List, [], ◌∷◌, ◌++◌, map, length}
use Rattle.algebra.specs.Number.{Number, quadratics, sign}
use Rattle.geometry.specs.Plane.{Point}
use Rattle.deque.specs.Contents.{contents}
use Rattle.taut.specs.declared.Side.{Side}
use Rattle.taut.specs.declared.Side.TheVariants.{Left}
use Rattle.taut.specs.Sleeve.{other}
use Rattle.taut.specs.TautString.{Bend, aim}
use Rattle.taut.specs.Funnel.{Funnel, settle, push, flip, gain, widen, funnel_at}
use Rattle.funnel.specs.declared.Corner.{Corner}
use Rattle.funnel.specs.declared.Working.{Working}
use Rattle.funnel.specs.declared.Portal.{Portal}
use Rattle.funnel.specs.Corners.{vertex_meant, portal_meant}
use Rattle.funnel.specs.Ends.{seen}

module _ {P : Type 0} where
  abbrev pub SameRoom : Working P → Working P → Type 0
  SameRoom d d' = (length d'.slots.now ≡ length d.slots.now) × (length d'.places.now ≡ length d.places.now)

module _ {P : Type 0} (at : P → Point) where
  abbrev pub bend_of : Corner P → Bend Number
  bend_of c = record { side = c.side; vertex = vertex_meant at c }

  abbrev pub meant : List (Corner P) → List (Corner P) → List (Corner P) → Funnel Number
  meant near bends far = record { near = map (vertex_meant at) near; final = map bend_of bends; far = map (vertex_meant at) far }

  pub record Holds (e : Point) (row : List (Corner P)) (near far : ℕ) (bends : List (Corner P)) (n : ℕ) (f : Funnel Number) : Type 0 where
    pub nears : List (Corner P)
    pub apex : Corner P
    pub fars : List (Corner P)
    pub parts : row ≡ nears ++ apex ∷ fars
    pub near_count : near ≡ length nears
    pub far_count : far ≡ length fars
    pub top : at apex.point ≡ aim quadratics e (map bend_of bends)
    pub is : meant nears bends fars ≡ f
    pub few : near + far + length bends ≤ n

  abbrev pub Stands : Point → Side → Working P → ℕ → Funnel Number → Type 0
  Stands e t d n f = Holds e (seen t (contents d.chains.row d.slots.now)) d.chains.near d.chains.far (contents d.chains.bends d.places.now) n f

  abbrev pub settled : Point → Side → Point → Funnel Number → Funnel Number
  settled e t y f = settle quadratics sign e t y f.near f.final f.far

  pub record Turned (e : Point) (t : Side) (y : Point) (f : Funnel Number) (row : List (Corner P)) (near far : ℕ) (bends : List (Corner P)) (n : ℕ) (more : Bool) : Type 0 where
    pub now : Funnel Number
    pub holds : Holds e row near far bends n now
    pub same : settled e t y f ≡ settled e t y now
    pub done : more ≡ false → settled e t y now ≡ now

  abbrev pub Turns : Side → Point → Working P → Working P → Bool → Type 0
  Turns t y d d' more = (e : Point) (n : ℕ) (f : Funnel Number) → n ≤ length d.places.now → Stands e t d n f
      → Turned e t y f (seen t (contents d'.chains.row d'.slots.now)) d'.chains.near d'.chains.far (contents d'.chains.bends d'.places.now) n more

  abbrev pub Settles : Side → Point → Working P → Working P → Type 0
  Settles t y d d' = (e : Point) (n : ℕ) (f : Funnel Number) → n ≤ length d.places.now → Stands e t d n f → Stands e t d' n (settled e t y f)

  abbrev pub Pushes : Side → Corner P → Working P → Working P → Type 0
  Pushes t c d d' = (e : Point) (n : ℕ) (f : Funnel Number) → n + 1 < length d.slots.now → Stands e t d n f → Stands e t d' (n + 1) (push (vertex_meant at c) f)

  abbrev pub Flips : Working P → Working P → Type 0
  Flips d d' = (e : Point) (t : Side) (n : ℕ) (f : Funnel Number) → Stands e t d n f → Stands e (other t) d' n (flip f)

  abbrev pub Nears : Side → Corner P → Working P → Working P → Type 0
  Nears t c d d' = (e : Point) (n : ℕ) (f : Funnel Number) → n + 1 < length d.slots.now → n ≤ length d.places.now → Stands e t d n f
      → Stands e t d' (n + 1) (push (vertex_meant at c) (settled e t (at c.point) f))

  abbrev pub Gains : Side → Corner P → Working P → Working P → Type 0
  Gains t c d d' = (e : Point) (n : ℕ) (f : Funnel Number) → n + 1 < length d.slots.now → n ≤ length d.places.now → Stands e Left d n f
      → Stands e Left d' (n + 1) (gain quadratics sign e t (vertex_meant at c) f)

  abbrev pub Widens : Portal P → Portal P → Working P → Working P → Type 0
  Widens p q d d' = (e : Point) (n : ℕ) (f : Funnel Number) → n + 1 < length d.slots.now → n ≤ length d.places.now → Stands e Left d n f
      → Stands e Left d' (n + 1) (widen quadratics sign e (portal_meant at p) (portal_meant at q) f)

  abbrev pub no_chains : Funnel Number
  no_chains = record { near = []; final = []; far = [] }

  abbrev pub Begins : P → Working P → Type 0
  Begins x d = 0 < length d.slots.now → Stands (at x) Left d 0 no_chains

  abbrev pub Opens : P → Portal P → Working P → Type 0
  Opens x p d = 2 < length d.slots.now → Stands (at x) Left d 2 (funnel_at quadratics sign (at x) (portal_meant at p) [])
