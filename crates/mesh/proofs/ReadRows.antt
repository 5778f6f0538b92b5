-- Where lists are readable, the row of every corner is there and in range, and the point at the corner is what the row writes.
use Rattle.std.proofs.Common.{◌≡◌, ◌<◌, map, length, get_or, None, sym, ap, ◌∙◌, subst}
use lib.ListN.{length-map}
use Rattle.std.proofs.lemmas.List.{get_or-map}
use Rattle.base.specs.declared.ids.VertexId.{VertexId}
use Rattle.base.specs.declared.ids.HalfEdgeId.{HalfEdgeId}
use Rattle.geometry.specs.Plane.{Point, origin}
use Rattle.geometry.specs.Ranges.{point_refusal}
use Rattle.mesh.specs.declared.lists.MeshLists.{MeshLists}
use Rattle.mesh.specs.Surface.{Has, spot}
use Rattle.mesh.specs.MeshLists.{meant, surface_of}
use Rattle.mesh.specs.Stages.{Readable}
use Rattle.mesh.proofs.Settled.{readable_settled}

-- v is the vertex at a corner h of readable lists
module _ {P R : Type 0} (w : R → Point) (m : MeshLists P R) (known : ∥ Readable (meant w m) ∥₁) (h : HalfEdgeId) (within : Has (surface_of w m) h) (v : VertexId) (named : v ≡ (surface_of w m).corner h) where
  r : Readable (meant w m)
  r = readable_settled (meant w m) known

  below : v.0 < length (map w m.rows.now)
  below = subst (λ u. u.0 < length (map w m.rows.now)) (sym named) (r.corners h within)

  pub row_there : v.0 < length m.rows.now
  row_there = rw length-map at below

  pub row_fits : (d : R) → point_refusal (w (get_or m.rows.now v.0 d)) ≡ None
  row_fits d = subst (λ p. point_refusal p ≡ None) (get_or-map w m.rows.now v.0 d origin row_there) (r.ranges v below)

  pub row_is : (d : R) → spot (surface_of w m) h ≡ w (get_or m.rows.now v.0 d)
  row_is d = ap (λ u. get_or (map w m.rows.now) u.0 origin) (sym named) ∙ get_or-map w m.rows.now v.0 d origin row_there
