-- Twins of a lawful surface are mutual and have codes that fit; and the twin in a mirrored surface, asked with such codes: 65,535 has no mirrored side of its own, and no twin either.
use Rattle.std.proofs.Common.{◌≡◌, ℕ, ◌*◌, ◌<◌, ◌≤◌, Some, None, Option, sym, ap, ◌∙◌, inl, inr, arith}
use Rattle.base.specs.declared.ids.HalfEdgeId.{HalfEdgeId}
use Rattle.base.specs.Ids.{boundary, mirror_side}
use Rattle.mesh.specs.Surface.{Surface, Twins}
use Rattle.surfaces.specs.Lawful.{Lawful}
use Rattle.surfaces.specs.Layers.{renamed}
use Rattle.surfaces.proofs.Codes.{side_past}
use Rattle.surfaces.proofs.SheetCells.{split}

-- twins are mutual, past the end too
pub twin_twins : (f : Surface) → Lawful f → (h d : HalfEdgeId) → f.twin h ≡ Some d → Twins f h d
twin_twins f w h d t = elim (split h.0 (3 * f.F)) [
  | inl l ↦ w.sound.twins h l d t
  | inr l ↦ absurd (none_some (w.ended.no_twin h l) t)
]
  where
    none_some : {o : Option HalfEdgeId} {d : HalfEdgeId} → o ≡ None → o ≡ Some d → ⊥
    none_some p q = let z : ◌≡◌ {A = ℕ} 0 1 = cc in omega arith

pub twin_fits : (f : Surface) → Lawful f → (h d : HalfEdgeId) → f.twin h ≡ Some d → d.0 < 65535
twin_fits f w h d t = omega (arith, (twin_twins f w h d t).within, w.few_triangles)

module _ (f : Surface) (w : Lawful f) (h r : HalfEdgeId) (turned : h.0 < 65535 → r ≡ mirror_side h) (nowhere : 65535 ≤ h.0 → r ≡ boundary) where
  pub asked : f.twin r ≡ f.twin (mirror_side h)
  asked = elim (split h.0 65535) [
    | inl l ↦ ap f.twin (turned l)
    | inr l ↦
        let n = w.few_triangles in
        ap f.twin (nowhere l) ∙ w.ended.no_twin boundary (omega arith) ∙ sym (w.ended.no_twin (mirror_side h) (side_past f.F h (omega arith)))
  ]

  pub twin_renamed : (d m : HalfEdgeId) → Some d ≡ f.twin r → (d.0 < 65535 → m ≡ mirror_side d) → Some m ≡ renamed (f.twin (mirror_side h))
  twin_renamed d m t renames = ap Some (renames (twin_fits f w r d (sym t))) ∙ ap renamed (t ∙ asked)
