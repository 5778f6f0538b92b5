-- renamed         the twin of a side, under its code in the mirror image
-- mirrored        the surface with the sign of x changed and corners 1 and 2 of every triangle exchanged, so that its triangles turn left again
-- among           a half-edge is one of a list
-- unless_barred   the half-edge across a side, unless it or the side is barred
-- barred          the surface whose barred portals are boundary from both sides
-- portal_refusal  why a side with this half-edge across it cannot be barred
-- bar_refusal     why a side cannot be barred: it is no portal as the surface shows it, or else 64 bars stand already
use Rattle.std.specs.Prelude.{ℕ, Bool, cond, ◌||◌, List, Some, None, Option, ◌==◌, nat_le}
use Rattle.std.specs.List.{list_any}
use Rattle.base.specs.declared.ids.HalfEdgeId.{HalfEdgeId}
use Rattle.base.specs.declared.refusals.Refusal.{Refusal}
use Rattle.base.specs.declared.refusals.Refusal.TheVariants.{NoPortal, BarsFull}
use Rattle.base.specs.Ids.{mirror_side, mirror_corner}
use Rattle.geometry.specs.Plane.{mirror}
use Rattle.mesh.specs.Surface.{Surface}

abbrev pub renamed : Option HalfEdgeId → Option HalfEdgeId
renamed None = None
renamed (Some d) = Some (mirror_side d)

abbrev pub mirrored : Surface → Surface
mirrored f = record {
  F = f.F;
  V = f.V;
  corner = λ h. f.corner (mirror_corner h);
  point = λ v. mirror (f.point v);
  twin = λ h. renamed (f.twin (mirror_side h));
}

abbrev pub among : List HalfEdgeId → HalfEdgeId → Bool
among bars h = list_any (λ b. b.0 == h.0) bars

abbrev pub unless_barred : List HalfEdgeId → HalfEdgeId → Option HalfEdgeId → Option HalfEdgeId
unless_barred bars h None = None
unless_barred bars h (Some d) = cond (among bars h || among bars d) None (Some d)

abbrev pub barred : List HalfEdgeId → Surface → Surface
barred bars f = record {
  F = f.F;
  V = f.V;
  corner = f.corner;
  point = f.point;
  twin = λ h. unless_barred bars h (f.twin h);
}

abbrev pub portal_refusal : Option HalfEdgeId → HalfEdgeId → ℕ → Option Refusal
portal_refusal None side n = Some (NoPortal side)
portal_refusal (Some d) side n = cond (nat_le 64 n) (Some BarsFull) None

-- of the surface as it shows itself, the side, and how many bars stand
abbrev pub bar_refusal : Surface → HalfEdgeId → ℕ → Option Refusal
bar_refusal f side n = portal_refusal (f.twin side) side n
