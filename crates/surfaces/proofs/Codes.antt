-- Half-edge codes under a mirror: each renaming undoes itself and stays in the triangle, and the two go together with next and previous.
use Rattle.std.proofs.Common.{◌≡◌, ℕ, ◌*◌, ◌<◌, ◌≤◌, ap, arith}
use Rattle.base.specs.declared.ids.HalfEdgeId.{HalfEdgeId}
use Rattle.base.specs.Ids.{half_edge, next, previous, mirror_side, mirror_corner}

pub side_twice : (h : HalfEdgeId) → mirror_side (mirror_side h) ≡ h
side_twice h = ap half_edge (omega arith)

pub corner_twice : (h : HalfEdgeId) → mirror_corner (mirror_corner h) ≡ h
corner_twice h = ap half_edge (omega arith)

-- a side of the mirror image runs the other way
pub corner_from_side : (h : HalfEdgeId) → mirror_corner h ≡ next (mirror_side h)
corner_from_side h = ap half_edge (omega arith)

pub side_from_corner : (h : HalfEdgeId) → mirror_side h ≡ previous (mirror_corner h)
side_from_corner h = ap half_edge (omega arith)

pub corner_of_next : (h : HalfEdgeId) → mirror_corner (next h) ≡ mirror_side h
corner_of_next h = ap half_edge (omega arith)

pub corner_of_previous : (h : HalfEdgeId) → mirror_corner (previous h) ≡ next (mirror_corner h)
corner_of_previous h = ap half_edge (omega arith)

pub side_of_previous : (h : HalfEdgeId) → mirror_side (previous h) ≡ mirror_corner h
side_of_previous h = ap half_edge (omega arith)

pub side_below : (n : ℕ) (h : HalfEdgeId) → h.0 < 3 * n → (mirror_side h).0 < 3 * n
side_below n h l = omega arith

pub corner_below : (n : ℕ) (h : HalfEdgeId) → h.0 < 3 * n → (mirror_corner h).0 < 3 * n
corner_below n h l = omega arith

pub side_past : (n : ℕ) (h : HalfEdgeId) → 3 * n ≤ h.0 → 3 * n ≤ (mirror_side h).0
side_past n h l = omega arith

pub corner_past : (n : ℕ) (h : HalfEdgeId) → 3 * n ≤ h.0 → 3 * n ≤ (mirror_corner h).0
corner_past n h l = omega arith
