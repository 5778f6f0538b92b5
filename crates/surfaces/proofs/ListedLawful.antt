-- Of refused lists a mesh holds nothing; and the surface of vetted lists is what a mesh owes.
use Rattle.std.proofs.Common.{◌≡◌, ℕ, ◌*◌, ◌<◌, List, map, length, get_or, Some, Ok, Err, Result, IsErr, sym, refl, ap, ◌∙◌, arith}
use mathlib.Core.Logic.{∥∥₁_elim, ∥∥₁_prop}
use mathlib.Core.HLevel.{⊥_prop}
use native.Mathlib.Nat.{ℕ_set}
use native.Mathlib.Bridge.{le_prop}
use lib.ListN.{length-map}
use Rattle.std.proofs.lemmas.List.{get_or_past, get_or-map}
use Rattle.base.specs.declared.ids.VertexId.{VertexId}
use Rattle.base.specs.declared.ids.HalfEdgeId.{HalfEdgeId}
use Rattle.base.specs.declared.refusals.Refusal.{Refusal}
use Rattle.base.specs.Ids.{vertex, boundary, leads}
use Rattle.geometry.specs.Plane.{Point, origin}
use Rattle.geometry.specs.Ranges.{point_refusal}
use Rattle.mesh.specs.Lists.{Lists, lists, listed, InRange}
use Rattle.mesh.specs.Verdict.{Fails, limits, range, corner, turn, twin, fan, span, Accepted, Verdict}
use Rattle.mesh.proofs.FanSteps.{some_none}
use Rattle.surfaces.specs.Lawful.{Lawful, Vetted, no_lists, Holds}
use Rattle.surfaces.proofs.SoundStable.{settled}

-- a rule that fails leaves nothing accepted
fails_not : (l : Lists) (e : Refusal) → Fails l e → Accepted l → ⊥
fails_not l e (limits out) a = out a.limits
fails_not l e (range v k out) a = out (a.ranges v k)
fails_not l e (corner h k out) a = out (a.sound.corners h k)
fails_not l e (turn t k out) a = out (a.sound.turns t k)
fails_not l e (twin h k out) a = out (a.sound.twins h k)
fails_not l e (fan h k out) a = out (a.sound.fans h k)
fails_not l e (span h k out) a = out (a.sound.spans h k)

-- of refused lists a mesh holds nothing
pub refused_holds : {X : Type 0} (l : Lists) (r : Result X Refusal) → Verdict l r → IsErr r → Holds l no_lists
refused_holds l (Ok x) v e = absurd cc
refused_holds l (Err e) v _ = record { accepted = λ a. absurd (fails_not l e v.fails a); refused = λ _. refl }

module _ (l : Lists) (v : ∥ Vetted l ∥₁) where
  corners_all : length l.corners ≡ 3 * l.triangles
  corners_all = ∥∥₁_elim v (ℕ_set _ _) (λ w. w.all_corners)

  sides_all : length l.across ≡ 3 * l.triangles
  sides_all = ∥∥₁_elim v (ℕ_set _ _) (λ w. w.all_sides)

  pub vetted_lawful : Lawful (listed l)
  vetted_lawful = record {
    sound = settled (listed l) (∥∥₁_elim v ∥∥₁_prop (λ w. ∣ w.sound ∣₁));
    ended = record {
      no_corner = λ h k. get_or_past l.corners h.0 (vertex 0) (omega (arith, corners_all));
      no_point = λ p k. get_or_past l.points p.0 origin k;
      no_twin = λ h k. ap leads (get_or_past l.across h.0 boundary (omega (arith, sides_all)));
    };
    few_triangles = ∥∥₁_elim v le_prop (λ w. w.few_triangles);
    few_vertices = ∥∥₁_elim v le_prop (λ w. w.few_vertices);
  }

  -- no point of theirs is refused
  pub vetted_fits : (p : VertexId) → p.0 < length l.points → (InRange l p → ⊥) → ⊥
  vetted_fits p k out = ∥∥₁_elim v ⊥_prop (λ w. out (w.ranges p k))

-- no row of theirs writes a point that is refused
pub never_refused : {R : Type 0} (w : R → Point) (rows : List R) (n : ℕ) (corners : List VertexId) (across : List HalfEdgeId) → ∥ Vetted (lists n (map w rows) corners across) ∥₁ →
    (p : VertexId) (r : R) (e : Refusal) → p.0 < length rows → r ≡ get_or rows p.0 r → point_refusal (w r) ≡ Some e → ⊥
never_refused w rows n corners across v p r e h k out =
    vetted_fits (lists n (map w rows) corners across) v p (simp length-map h)
    (λ fits. some_none out (ap point_refusal (ap w k ∙ sym (get_or-map w rows p.0 r origin h)) ∙ fits))
