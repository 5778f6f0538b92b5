-- The rules that a surface must satisfy, each at one place, in the order in which they are tested.
-- CornerBelow    a corner names one of the V vertices
-- TurnsLeft      a triangle turns left
-- Paired         a side is boundary, or it and its twin are the two halves of one edge
-- Opens          the fan of a corner is open (in Surface)
-- FallsShort     a corner is no later one of a fan whose first ray lies in its sector: where this holds of each corner, every fan spans less than a full turn
-- AtEach         a rule holds at each half-edge of the surface
-- Sound          all five hold everywhere
-- FansEnd        on a sound surface going on in a fan comes to an end too: there are only so many corners, and none comes twice
use Rattle.std.specs.Prelude.{◌≡◌, ◌<◌, Some, None}
use Rattle.base.specs.declared.ids.TriangleId.{TriangleId}
use Rattle.base.specs.declared.ids.HalfEdgeId.{HalfEdgeId}
use Rattle.geometry.specs.declared.Turn.TheVariants.{Left}
use Rattle.mesh.specs.Surface.{Surface, Has, triangle_turn, Twins, Later, Opens, Ends, Covers}

abbrev pub CornerBelow : Surface → HalfEdgeId → Type 0
CornerBelow f h = (f.corner h).0 < f.V

abbrev pub TurnsLeft : Surface → TriangleId → Type 0
TurnsLeft f t = triangle_turn f t ≡ Left

abbrev pub Paired : Surface → HalfEdgeId → Type 0
Paired f h = (d : HalfEdgeId) → f.twin h ≡ Some d → Twins f h d

abbrev pub FallsShort : Surface → HalfEdgeId → Type 0
FallsShort f h = (s : HalfEdgeId) → Has f s → f.twin s ≡ None → Later f s h → Covers f s h → ⊥

abbrev pub AtEach : Surface → (Surface → HalfEdgeId → Type 0) → Type 0
AtEach f Good = (h : HalfEdgeId) → Has f h → Good f h

pub record Sound (f : Surface) : Type 0 where
  pub corners : AtEach f CornerBelow
  pub turns : (t : TriangleId) → t.0 < f.F → TurnsLeft f t
  pub twins : AtEach f Paired
  pub fans : AtEach f Opens
  pub spans : AtEach f FallsShort

abbrev pub FansEnd : Type 0
FansEnd = (f : Surface) → Sound f → AtEach f Ends
