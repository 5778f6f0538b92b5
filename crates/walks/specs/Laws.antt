-- Walking      what holds of walks on a surface:
--   arrives      a walk ends in one triangle
--   within       .. of the surface
--   joined       a walk and a walk from where it ends make a walk; a single crossing is a walk too
--   parted       both parts of a walk are walks
--   spur_in      a spur put into a walk leaves it a walk between the same triangles
--   spur_out     so does a spur taken out
--   one_more     a crossing added to a walk, with which its last crossing may cancel, makes a walk
--   reduced      the reduction of a walk is a walk between the same triangles
--   joins        .. and joins terminals that lie strictly inside these
--   homotopic    homotopic walks from one triangle end in one triangle
--   walked_back  the way back is a walk
-- WalkLaws     all that on every sound surface
-- SleeveLaw    on a sound surface the portals of a walk without spurs between terminals make a sleeve, and each of its runs makes a fan
-- ExactlyOne   such a walk has exactly one taut string: the bends that the funnel finds
-- ShortestOfAll   no path through the portals of crossings that are homotopic to such a walk measures less, under any gauge, than D times its taut string
-- BackLaw      the way back of such a walk is one too, and its taut string is the string read backwards
-- EqualWalks   two such walks between the same terminals that have the same taut string are one walk
-- reduced_string   the bends that the funnel finds for the reduction of crossings
-- SameStringSameClass   walks between the same terminals, spurs allowed: the funnel finds the same bends for their reductions exactly when they are homotopic
use Rattle.std.specs.Prelude.{◌≡◌, ℕ, ◌<◌, List, [], ◌∷◌, ◌++◌}
use Rattle.base.specs.declared.ids.TriangleId.{TriangleId}
use Rattle.algebra.specs.Number.{Number, quadratics, sign, ◌⊛◌}
use Rattle.algebra.specs.Order.{AtMost}
use Rattle.algebra.specs.Plane.{Vec}
use Rattle.geometry.specs.Plane.{Point}
use Rattle.words.specs.declared.sorts.Crossing.{Crossing}
use Rattle.words.specs.Sorts.{recrossed, same_crossing}
use Rattle.words.specs.Words.{Homotopic, added, reduction}
use Rattle.taut.specs.Sleeve.{Sleeve}
use Rattle.taut.specs.Fan.{FanBound}
use Rattle.taut.specs.TautString.{Bend}
use Rattle.taut.specs.Funnel.{funnel}
use Rattle.taut.specs.Lengths.{Gauge, whole, Marks}
use Rattle.taut.specs.Laws.{string_length, path_length}
use Rattle.taut.specs.Backwards.{backward_bends}
use Rattle.mesh.specs.Surface.{Surface}
use Rattle.mesh.specs.Sound.{Sound}
use Rattle.walks.specs.Walks.{Walk, arrival, way_back, portals, Inside, Joins, TautOf}

pub record Walking (f : Surface) : Type 0 where
  pub arrives : (t u : TriangleId) (w : List Crossing) → Walk f t w u → arrival t w ≡ u
  pub within : (t u : TriangleId) (w : List Crossing) → t.0 < f.F → Walk f t w u → u.0 < f.F
  pub joined : (t m u : TriangleId) (v w : List Crossing) → Walk f t v m → Walk f m w u → Walk f t (v ++ w) u
  pub parted : (t u : TriangleId) (v w : List Crossing) → Walk f t (v ++ w) u → Walk f t v (arrival t v) × Walk f (arrival t v) w u
  pub spur_in : (t m u : TriangleId) (v w : List Crossing) (c : Crossing) → t.0 < f.F → Walk f t (v ++ w) u → Walk f (arrival t v) (c ∷ []) m → Walk f t (v ++ c ∷ recrossed c ∷ w) u
  pub spur_out : (t u : TriangleId) (v w : List Crossing) (c : Crossing) → Walk f t (v ++ c ∷ recrossed c ∷ w) u → Walk f t (v ++ w) u
  pub one_more : (t m u : TriangleId) (w : List Crossing) (c : Crossing) → Walk f t w m → Walk f m (c ∷ []) u → Walk f t (added recrossed same_crossing w c) u
  pub reduced : (t u : TriangleId) (w : List Crossing) → Walk f t w u → Walk f t (reduction recrossed same_crossing w) u
  pub joins : (t u : TriangleId) (s e : Point) (w : List Crossing) → t.0 < f.F → Inside f t s → Walk f t w u → Inside f u e → Joins f t s (reduction recrossed same_crossing w) u e
  pub homotopic : (t u u' : TriangleId) (v w : List Crossing) → Homotopic recrossed v w → Walk f t v u → Walk f t w u' → u ≡ u'
  pub walked_back : (t u : TriangleId) (w : List Crossing) → t.0 < f.F → Walk f t w u → Walk f u (way_back w) t

abbrev pub WalkLaws : Type 0
WalkLaws = (f : Surface) → Sound f → Walking f

abbrev pub SleeveLaw : Type 0
SleeveLaw = (f : Surface) → Sound f → (t u : TriangleId) (s e : Point) (w : List Crossing) → Joins f t s w u e → Sleeve quadratics s (portals f w) e × FanBound quadratics s (portals f w) e

abbrev pub ExactlyOne : Type 0
ExactlyOne = (f : Surface) → Sound f → (t u : TriangleId) (s e : Point) (w : List Crossing) → Joins f t s w u e → TautOf f s w e (funnel quadratics sign s (portals f w) e) × ((bs : List (Bend Number)) → TautOf f s w e bs → bs ≡ funnel quadratics sign s (portals f w) e)

abbrev pub ShortestOfAll : Type 0
ShortestOfAll = (f : Surface) → Sound f → (t u : TriangleId) (s e : Point) (w : List Crossing) → Joins f t s w u e
    → (v : List Crossing) → Homotopic recrossed v w → (fs : List (Vec Number)) (measure : Vec Number → Number) → Gauge quadratics fs measure
    → (bs : List (Bend Number)) → TautOf f s w e bs → (D : ℕ) (js : List ℕ) → Marks quadratics D (portals f v) js
    → AtMost (whole quadratics D ⊛ string_length measure s bs e) (path_length measure D s (portals f v) js e)

abbrev pub BackLaw : Type 0
BackLaw = (f : Surface) → Sound f → (t u : TriangleId) (s e : Point) (w : List Crossing) → Joins f t s w u e
    → Joins f u e (way_back w) t s × ((bs : List (Bend Number)) → TautOf f s w e bs → TautOf f e (way_back w) s (backward_bends bs))

abbrev pub EqualWalks : Type 0
EqualWalks = (f : Surface) → Sound f → (t u : TriangleId) (s e : Point) (w w' : List Crossing) → Joins f t s w u e → Joins f t s w' u e
    → (bs : List (Bend Number)) → TautOf f s w e bs → TautOf f s w' e bs → w ≡ w'

abbrev pub reduced_string : Surface → Point → List Crossing → Point → List (Bend Number)
reduced_string f s w e = funnel quadratics sign s (portals f (reduction recrossed same_crossing w)) e

abbrev pub SameStringSameClass : Type 0
SameStringSameClass = (f : Surface) → Sound f → (t u : TriangleId) (s e : Point) (v v' : List Crossing) → t.0 < f.F → Inside f t s → Inside f u e → Walk f t v u → Walk f t v' u
    → (reduced_string f s v e ≡ reduced_string f s v' e → Homotopic recrossed v v') × (Homotopic recrossed v v' → reduced_string f s v e ≡ reduced_string f s v' e)
