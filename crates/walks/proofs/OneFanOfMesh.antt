-- Two walks leave a triangle by two of its sides: the first goes round the corner between these to the right, the second to the left. The rays of both runs make one fan (`one_fan`).
-- Going both ways from that corner the rays of the surface make a fan (`both_ways`); the run to the left is put in place of the corners there, then, read from the other end, the run to the right.
use Rattle.std.proofs.Common.{◌≡◌, List, ◌∷◌, ◌++◌, reverse, sym, refl, ap, ◌∙◌, subst}
use mathlib.Core.List.{reverse_aux-eq, reverse-append, reverse-reverse}
use Rattle.base.specs.declared.ids.TriangleId.{TriangleId}
use Rattle.base.specs.declared.ids.HalfEdgeId.{HalfEdgeId}
use Rattle.base.specs.Ids.{triangle_of}
use Rattle.algebra.specs.Number.{quadratics}
use Rattle.algebra.proofs.Quadratics.{quadratic_ring}
use Rattle.geometry.specs.Plane.{Point}
use Rattle.words.specs.declared.sorts.Crossing.{Crossing}
use Rattle.words.specs.Sorts.{recrossed}
use Rattle.words.specs.Words.{Reduced}
use Rattle.taut.specs.declared.Side.TheVariants.{Left, Right}
use Rattle.taut.specs.Fan.{Fan}
use Rattle.taut.specs.EqualBends.{OneFan}
use Rattle.taut.proofs.FanParts.{fan_reverse}
use Rattle.mesh.specs.Surface.{Surface, spot}
use Rattle.mesh.specs.Sound.{Sound}
use Rattle.walks.specs.Walks.{Walk, portal_of, portals, Inside}
use Rattle.walks.proofs.TurnSigns.{◌⟶◌}
use Rattle.walks.proofs.Triangles.{near, far}
use Rattle.walks.proofs.RoundVertices.{Follows, RoundOn, fars, both_ways}
use Rattle.walks.proofs.Crossings.{Crossed, before, after, far_end_at, before_within, after_within, goes_round, same_end, same_far_end}
use Rattle.walks.proofs.RunFans.{run_fan}

module _ (f : Surface) (sound : Sound f) (u : TriangleId) (e : Point) (finish : Inside f u e) where
  pub one_fan : (c₁ c₂ : Crossing) (w₁ w₂ : List Crossing) → before Left c₂ ≡ before Right c₁ → Crossed f c₁ → Crossed f c₂ → Walk f (triangle_of c₁.entered) w₁ u → Walk f (triangle_of c₂.entered) w₂ u
      → Reduced recrossed (c₁ ∷ w₁) → Reduced recrossed (c₂ ∷ w₂) → OneFan quadratics e (portal_of f c₁) (portals f w₁) (portal_of f c₂) (portals f w₂)
  one_fan c₁ c₂ w₁ w₂ joint k₁ k₂ walk₁ walk₂ r₁ r₂ rs₁ rs₂ run₁ run₂ =
      let h : HalfEdgeId = before Right c₁ in
      let v : Point = spot f h in
      let right_rays : List HalfEdgeId → List Point = λ gs. fars f Right v (h ∷ gs) in
      let shared_left : spot f (far Left h) ≡ spot f (near Left (after Left c₂)) = ap (λ g. spot f (far Left g)) (sym joint) ∙ ap f.point (same_far_end f sound Left c₂ k₂) in
      let shared_right : spot f (far Right h) ≡ spot f (near Right (after Right c₁)) = ap f.point (same_far_end f sound Right c₁ k₁) in
      let run_left : List Point = (v ⟶ spot f (near Left (after Left c₂))) ∷ rs₂ in
      let run_right : List Point = (v ⟶ spot f (near Right (after Right c₁))) ∷ rs₁ in
      let to_left : (gs : List HalfEdgeId) → RoundOn f Right h gs → Fan quadratics Left (reverse (right_rays gs) ++ run_left) =
      λ gs right. run_fan f sound u e finish Left c₂ w₂ v (reverse (right_rays gs)) rs₂ k₂ walk₂ r₂ (ap f.point (sym (same_end f sound Left c₂ k₂)) ∙ ap (spot f) joint)
      (λ hs left.
      subst (λ x. Fan quadratics Left (reverse (right_rays gs) ++ ((v ⟶ x) ∷ fars f Left v (after Left c₂ ∷ hs)))) shared_left
      (subst (Fan quadratics Left) (reverse_aux-eq (right_rays gs) ((v ⟶ spot f (far Left h)) ∷ fars f Left v (after Left c₂ ∷ hs)))
      (both_ways f sound h gs (after Left c₂ ∷ hs) v (before_within f sound Right c₁ k₁) refl right (subst (λ g. Follows f Left g (after Left c₂)) joint (goes_round f sound Left c₂ k₂), after_within f sound Left c₂ k₂, left))))
      run₂ in
      let to_right : Fan quadratics Right (reverse run_left ++ run_right) =
      run_fan f sound u e finish Right c₁ w₁ v (reverse run_left) rs₁ k₁ walk₁ r₁ (ap f.point (sym (same_end f sound Right c₁ k₁)))
      (λ gs right.
      let all : List Point = right_rays (after Right c₁ ∷ gs) in
      subst (λ x. Fan quadratics Right (reverse run_left ++ ((v ⟶ x) ∷ fars f Right v (after Right c₁ ∷ gs)))) shared_right
      (subst (Fan quadratics Right) (reverse-append (reverse all) run_left ∙ ap (λ l. reverse run_left ++ l) (reverse-reverse all))
      (fan_reverse quadratic_ring Left (reverse all ++ run_left) (to_left (after Right c₁ ∷ gs) (goes_round f sound Right c₁ k₁, after_within f sound Right c₁ k₁, right)))))
      run₁ in
      let whole : Fan quadratics Left (reverse run_right ++ run_left) =
      subst (Fan quadratics Left) (reverse-append (reverse run_left) run_right ∙ ap (λ l. reverse run_right ++ l) (reverse-reverse run_left)) (fan_reverse quadratic_ring Right (reverse run_left ++ run_right) to_right) in
      let far_left : spot f (near Left (after Left c₂)) ≡ (portal_of f c₂).right.point = sym (ap (λ x. x.point) (far_end_at f Left c₂) ∙ ap f.point (same_far_end f sound Left c₂ k₂)) in
      subst (λ x. Fan quadratics Left (reverse ((v ⟶ (portal_of f c₁).left.point) ∷ rs₁) ++ ((x ⟶ (portal_of f c₂).right.point) ∷ rs₂))) (sym (ap (spot f) joint))
      (subst (λ x. Fan quadratics Left (reverse ((v ⟶ x) ∷ rs₁) ++ ((v ⟶ (portal_of f c₂).right.point) ∷ rs₂))) (sym shared_right)
      (subst (λ x. Fan quadratics Left (reverse run_right ++ ((v ⟶ x) ∷ rs₂))) far_left whole))
