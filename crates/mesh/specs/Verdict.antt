-- Fails       a refusal tells the truth: its rule fails at its place
-- Before      a refusal comes before another: its number is smaller, or the number is the same and the place is not greater
-- Accepted    the lists keep the limits, every coordinate is in range, and the surface is sound
-- Refused     the refusal tells the truth, and it is the first that does
-- Verdict     the answer of a validation: accepted, or refused so
-- VerdictsAgree   two verdicts on the same lists are the same: a verdict says which lists are accepted, and of all others which refusal they get
-- FirstBad    of triangles, vertices or half-edges by their numbers, from 0 on: the first that is not good, or none, if all below n are good
use Rattle.std.specs.Prelude.{◌≡◌, ℕ, ◌<◌, ◌≤◌, ◌⊎◌, length, Some, None, Ok, Err, Option, Result}
use Rattle.base.specs.declared.ids.TriangleId.{TriangleId}
use Rattle.base.specs.declared.ids.VertexId.{VertexId}
use Rattle.base.specs.declared.ids.HalfEdgeId.{HalfEdgeId}
use Rattle.base.specs.declared.refusals.Refusal.{Refusal}
use Rattle.base.specs.declared.refusals.Refusal.TheVariants.{MeshLimits, VertexRange, CornerRange, TriangleTurn, TwinMismatch, ClosedFan, FullTurn}
use Rattle.base.specs.Refusals.{number, place}
use Rattle.mesh.specs.Surface.{Has, Opens}
use Rattle.mesh.specs.Sound.{CornerBelow, TurnsLeft, Paired, FallsShort, Sound}
use Rattle.mesh.specs.Lists.{Lists, listed, Limits, InRange}

-- the first two rules are about the lists, the others about their surface
pub data Fails (l : Lists) : Refusal → Type 0 where
  limits : (Limits l → ⊥) → Fails l MeshLimits
  range : (v : VertexId) → v.0 < length l.points → (InRange l v → ⊥) → Fails l (VertexRange v)
  corner : (h : HalfEdgeId) → Has (listed l) h → (CornerBelow (listed l) h → ⊥) → Fails l (CornerRange h)
  turn : (t : TriangleId) → t.0 < l.triangles → (TurnsLeft (listed l) t → ⊥) → Fails l (TriangleTurn t)
  twin : (h : HalfEdgeId) → Has (listed l) h → (Paired (listed l) h → ⊥) → Fails l (TwinMismatch h)
  fan : (h : HalfEdgeId) → Has (listed l) h → (Opens (listed l) h → ⊥) → Fails l (ClosedFan h ((listed l).corner h))
  span : (h : HalfEdgeId) → Has (listed l) h → (FallsShort (listed l) h → ⊥) → Fails l (FullTurn h ((listed l).corner h))

abbrev pub Before : Refusal → Refusal → Type 0
Before d e = (number d < number e) ⊎ ((number d ≡ number e) × (place d ≤ place e))

pub record Accepted (l : Lists) : Type 0 where
  pub limits : Limits l
  pub ranges : (v : VertexId) → v.0 < length l.points → InRange l v
  pub sound : Sound (listed l)

pub record Refused (l : Lists) (e : Refusal) : Type 0 where
  pub fails : Fails l e
  pub first : (d : Refusal) → Fails l d → Before e d

abbrev pub Verdict : {X : Type 0} → Lists → Result X Refusal → Type 0
Verdict l (Ok x) = Accepted l
Verdict l (Err e) = Refused l e

abbrev pub VerdictsAgree : Type 0
VerdictsAgree = (l : Lists) (r s : Result (Unit {0}) Refusal) → Verdict l r → Verdict l s → r ≡ s

abbrev pub FirstBad : {I : Type 0} → (I → ℕ) → (I → Type 0) → ℕ → Option I → Type 0
FirstBad {I} at Good n None = (x : I) → at x < n → Good x
FirstBad {I} at Good n (Some i) = (at i < n) × (Good i → ⊥) × ((x : I) → at x < at i → Good x)
