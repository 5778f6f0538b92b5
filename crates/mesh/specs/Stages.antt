-- What is known of lists after the first tests, and of the marks while fans are walked; the inner types and calls ask it of one another.
-- Readable    every corner has a point: the lists keep the limits, and corners and coordinates are in range
-- Walkable    the lists are readable, every triangle turns left, and every side is boundary or paired, so that fans can be walked
-- Starts      a corner is the first of a fan: the side that leaves it is boundary
-- InFan       a corner belongs to the fan of a first corner
-- AtMost      there is a corner, and it is not greater than another
-- Marked      a corner is marked
-- Fresh       no corner of the fan to be walked is marked: its first is not, and whatever is marked has the corner before it marked
-- Fanned      after one walk: what was marked before, and this fan, and nothing else; and its smallest corner that comes round, if one does
-- WalkedTo    after the walks from first corners below i: exactly their fans are marked, and r is the smallest corner that comes round, if one does
-- Walked      after all walks: exactly the corners of open fans are marked
use Rattle.std.specs.Prelude.{◌≡◌, ℕ, ◌<◌, ◌≤◌, Bool, true, false, ◌⊎◌, List, length, Some, None, Option, IfSome, IsSomeAnd, slice_index_or}
use Rattle.base.specs.declared.ids.TriangleId.{TriangleId}
use Rattle.base.specs.declared.ids.VertexId.{VertexId}
use Rattle.base.specs.declared.ids.HalfEdgeId.{HalfEdgeId}
use Rattle.base.specs.Ids.{next}
use Rattle.mesh.specs.Surface.{Surface, Has, Later, Opens, Covers}
use Rattle.mesh.specs.Sound.{CornerBelow, TurnsLeft, Paired, AtEach}
use Rattle.mesh.specs.Lists.{Lists, listed, Limits, InRange}

pub record Readable (l : Lists) : Type 0 where
  pub limits : Limits l
  pub ranges : (v : VertexId) → v.0 < length l.points → InRange l v
  pub corners : AtEach (listed l) CornerBelow

pub record Walkable (l : Lists) : Type 0 where
  pub readable : Readable l
  pub turns : (t : TriangleId) → t.0 < l.triangles → TurnsLeft (listed l) t
  pub twins : AtEach (listed l) Paired

pub record Starts (f : Surface) (s : HalfEdgeId) : Type 0 where
  pub has : Has f s
  pub rim : f.twin s ≡ None

abbrev pub InFan : Surface → HalfEdgeId → HalfEdgeId → Type 0
InFan f s x = (x ≡ s) ⊎ Later f s x

abbrev pub AtMost : Option HalfEdgeId → HalfEdgeId → Type 0
AtMost r x = IsSomeAnd r (λ q. q.0 ≤ x.0)

abbrev pub Marked : List Bool → HalfEdgeId → Type 0
Marked m x = slice_index_or m x.0 false ≡ true

pub record Fresh (f : Surface) (m : List Bool) (s : HalfEdgeId) : Type 0 where
  pub unmarked : Marked m s → ⊥
  pub backs : (x d : HalfEdgeId) → Marked m x → f.twin x ≡ Some d → Marked m (next d)

pub record Fanned (f : Surface) (s : HalfEdgeId) (before after : List Bool) (r : Option HalfEdgeId) : Type 0 where
  pub kept : (x : HalfEdgeId) → Marked before x → Marked after x
  pub all : (x : HalfEdgeId) → InFan f s x → Marked after x
  pub only : (x : HalfEdgeId) → Marked after x → Marked before x ⊎ InFan f s x
  pub round : IfSome r (λ q. Later f s q × Covers f s q)
  pub least : (x : HalfEdgeId) → Later f s x → Covers f s x → AtMost r x

pub record WalkedTo (f : Surface) (i : ℕ) (m : List Bool) (r : Option HalfEdgeId) : Type 0 where
  pub all : (s x : HalfEdgeId) → s.0 < i → Starts f s → InFan f s x → Marked m x
  pub only : (x : HalfEdgeId) → Marked m x → (s : HalfEdgeId) × (s.0 < i) × Starts f s × InFan f s x
  pub round : IfSome r (λ q. (s : HalfEdgeId) × Starts f s × Later f s q × Covers f s q)
  pub least : (s x : HalfEdgeId) → s.0 < i → Starts f s → Later f s x → Covers f s x → AtMost r x

pub record Walked (f : Surface) (m : List Bool) : Type 0 where
  pub opened : (x : HalfEdgeId) → Has f x → Opens f x → Marked m x
  pub only : (x : HalfEdgeId) → Has f x → Marked m x → Opens f x
