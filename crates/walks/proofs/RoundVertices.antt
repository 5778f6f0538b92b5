-- Going round a vertex of a sound surface, to the left (`on`) or to the right (back), the rays make a fan (`round_fan`).
-- From the first corner of a fan this is the rule on full turns; from any later corner it is a part of that fan; to the right it is the same fan read from its other end.
use Rattle.std.proofs.Common.{◌≡◌, List, [], ◌∷◌, reverse, Some, sym, refl, ap, ◌∙◌, subst, inl, inr}
use mathlib.Core.List.{reverse_aux, reverse-reverse}
use Rattle.base.specs.declared.ids.HalfEdgeId.{HalfEdgeId}
use Rattle.base.specs.Ids.{next, previous}
use Rattle.algebra.specs.Number.{Positive, quadratics}
use Rattle.algebra.proofs.Quadratics.{quadratic_ring}
use Rattle.geometry.specs.Plane.{Point}
use Rattle.taut.specs.declared.Side.{Side}
use Rattle.taut.specs.declared.Side.TheVariants.{Left, Right}
use Rattle.taut.specs.Sleeve.{veer}
use Rattle.taut.specs.Fan.{Sweeps, Sector, Clear, Fan}
use Rattle.taut.proofs.FanParts.{fan_tail, fan_reverse}
use Rattle.mesh.specs.Surface.{Surface, Has, spot, on, Later, one, more}
use Rattle.mesh.specs.Sound.{Sound}
use Rattle.mesh.specs.Stages.{Starts, InFan}
use Rattle.mesh.proofs.FanSteps.{next_previous, previous_within, later_within, fan_within, fan_on, opens_fan}
use Rattle.walks.proofs.TurnSigns.{◌⟶◌, not_right}
use Rattle.walks.proofs.Triangles.{near, far, corner_turns}

-- the corner g follows the corner h round their vertex, to the side
abbrev pub Follows : Surface → Side → HalfEdgeId → HalfEdgeId → Type 0
Follows f Left h g = on f h ≡ Some g
Follows f Right h g = on f g ≡ Some h

-- corner after corner follows h
abbrev pub RoundOn : Surface → Side → HalfEdgeId → List HalfEdgeId → Type 0
RoundOn f t h [] = Unit {0}
RoundOn f t h (g ∷ gs) = Follows f t h g × Has f g × RoundOn f t g gs

abbrev pub fars : Surface → Side → Point → List HalfEdgeId → List Point
fars f t v [] = []
fars f t v (g ∷ gs) = (v ⟶ spot f (far t g)) ∷ fars f t v gs

abbrev pub row : Surface → Side → Point → HalfEdgeId → List HalfEdgeId → List Point
row f t v h gs = (v ⟶ spot f (near t h)) ∷ (v ⟶ spot f (far t h)) ∷ fars f t v gs

module _ (f : Surface) (sound : Sound f) where
  -- both corners are at one vertex, and they share the ray between them
  on_vertex : (h g : HalfEdgeId) → Has f h → on f h ≡ Some g → f.corner h ≡ f.corner g
  on_vertex h g w e = sym (ap f.corner (next_previous h)) ∙ (sound.twins (previous h) (previous_within f h w) g e).to

  on_ray : (h g : HalfEdgeId) → Has f h → on f h ≡ Some g → f.corner (previous h) ≡ f.corner (next g)
  on_ray h g w e = (sound.twins (previous h) (previous_within f h w) g e).from

  pub same_vertex : (t : Side) (h g : HalfEdgeId) → Has f h → Has f g → Follows f t h g → f.corner h ≡ f.corner g
  same_vertex Left h g w x e = on_vertex h g w e
  same_vertex Right h g w x e = sym (on_vertex g h x e)

  pub shared_ray : (t : Side) (h g : HalfEdgeId) → Has f h → Has f g → Follows f t h g → f.corner (far t h) ≡ f.corner (near t g)
  shared_ray Left h g w x e = on_ray h g w e
  shared_ray Right h g w x e = sym (on_ray g h x e)

  pub same_spot : (t : Side) (h g : HalfEdgeId) (v : Point) → Has f h → Has f g → Follows f t h g → spot f h ≡ v → spot f g ≡ v
  same_spot t h g v w x e is = sym (ap f.point (same_vertex t h g w x e)) ∙ is

  sweeps : (h : HalfEdgeId) (gs : List HalfEdgeId) (v : Point) → Has f h → spot f h ≡ v → RoundOn f Left h gs → Sweeps quadratics Left (v ⟶ spot f (previous h)) (fars f Left v gs)
  sweeps h [] v w is r = tt
  sweeps h (g ∷ gs) v w is r =
      let here = same_spot Left h g v w r.1 r.0 is in (
        subst (λ n. Positive (veer quadratics Left (v ⟶ n) (v ⟶ spot f (previous g)))) (sym (ap f.point (shared_ray Left h g w r.1 r.0)))
            (subst (λ u. Positive (veer quadratics Left (u ⟶ spot f (next g)) (u ⟶ spot f (previous g)))) here (corner_turns f sound g r.1 Left)),
        sweeps g gs v r.1 here r.2,
      )

  -- the first ray of a fan comes up in no later sector
  clears : (s h : HalfEdgeId) (gs : List HalfEdgeId) (v : Point) → Starts f s → InFan f s h → spot f h ≡ v → RoundOn f Left h gs → Clear quadratics Left (v ⟶ spot f (next s)) (v ⟶ spot f (previous h)) (fars f Left v gs)
  clears s h [] v b i is r = tt
  clears s h (g ∷ gs) v b i is r =
      let w = fan_within f sound.twins b.has i in
      let here = same_spot Left h g v w r.1 r.0 is in
      let later = fan_on f sound.twins i r.0 in (
        (λ c.
            let d : Sector quadratics Left (spot f g ⟶ spot f (next s)) (spot f g ⟶ spot f (next g)) (spot f g ⟶ spot f (previous g)) =
            subst (λ n. Sector quadratics Left (spot f g ⟶ spot f (next s)) (spot f g ⟶ n) (spot f g ⟶ spot f (previous g))) (ap f.point (shared_ray Left h g w r.1 r.0))
            (subst (λ u. Sector quadratics Left (u ⟶ spot f (next s)) (u ⟶ spot f (previous h)) (u ⟶ spot f (previous g))) (sym here) c) in
            sound.spans g r.1 s b.has b.rim later (not_right (spot f g) (spot f (next g)) (spot f (next s)) d.0, not_right (spot f g) (spot f (next s)) (spot f (previous g)) d.1)),
        clears s g gs v b (inr later) here r.2,
      )

  -- from the first corner
  first_fan : (s : HalfEdgeId) (gs : List HalfEdgeId) (v : Point) → Starts f s → spot f s ≡ v → RoundOn f Left s gs → Fan quadratics Left (row f Left v s gs)
  first_fan s gs v b is r = (
    (subst (λ u. Positive (veer quadratics Left (u ⟶ spot f (next s)) (u ⟶ spot f (previous s)))) is (corner_turns f sound s b.has Left), sweeps s gs v b.has is r),
    clears s s gs v b (inl refl) is r,
  )

  row_back : (h g : HalfEdgeId) (gs : List HalfEdgeId) (v : Point) → Has f h → Has f g → on f h ≡ Some g → row f Left v h (g ∷ gs) ≡ (v ⟶ spot f (next h)) ∷ row f Left v g gs
  row_back h g gs v w x e = ap (λ c. (v ⟶ spot f (next h)) ∷ (v ⟶ f.point c) ∷ fars f Left v (g ∷ gs)) (shared_ray Left h g w x e)

  -- one corner on
  fan_on_from : (h g : HalfEdgeId) (gs : List HalfEdgeId) (v : Point) → Has f h → Has f g → on f h ≡ Some g → Fan quadratics Left (row f Left v h (g ∷ gs)) → Fan quadratics Left (row f Left v g gs)
  fan_on_from h g gs v w x e a = fan_tail quadratic_ring Left (v ⟶ spot f (next h)) (row f Left v g gs) (subst (Fan quadratics Left) (row_back h g gs v w x e) a)

  later_fan : {s h : HalfEdgeId} (gs : List HalfEdgeId) (v : Point) → Starts f s → spot f h ≡ v → Has f h → Later f s h → RoundOn f Left h gs → Fan quadratics Left (row f Left v h gs)
  later_fan {s = s} {h = h} gs v b is w (one e) r =
      fan_on_from s h gs v b.has w e (first_fan s (h ∷ gs) v b (ap f.point (same_vertex Left s h b.has w e) ∙ is) (e, w, r))
  later_fan {h = h} gs v b is w (more {g = g} l e) r =
      let x = later_within f sound.twins b.has l in
      fan_on_from g h gs v x w e (later_fan (h ∷ gs) v b (ap f.point (same_vertex Left g h x w e) ∙ is) x l (e, w, r))

  left_fan : (h : HalfEdgeId) (gs : List HalfEdgeId) (v : Point) → Has f h → spot f h ≡ v → RoundOn f Left h gs → Fan quadratics Left (row f Left v h gs)
  left_fan h gs v w is r =
      let o = opens_fan f sound.twins w (sound.fans h w) in
      elim o.2 [
        | inl same ↦ first_fan h gs v (subst (Starts f) (sym same) o.1) is r
        | inr l ↦ later_fan gs v o.1 is w l r
      ]

  -- gs follow h to the right, hs to the left
  pub both_ways : (h : HalfEdgeId) (gs hs : List HalfEdgeId) (v : Point) → Has f h → spot f h ≡ v → RoundOn f Right h gs → RoundOn f Left h hs → Fan quadratics Left (reverse_aux (fars f Right v gs) (row f Left v h hs))
  both_ways h [] hs v w is r l = left_fan h hs v w is l
  both_ways h (g ∷ gs) hs v w is r l =
      subst (λ q. Fan quadratics Left (reverse_aux (fars f Right v gs) q)) (row_back g h hs v r.1 w r.0)
      (both_ways g gs (h ∷ hs) v r.1 (same_spot Right h g v w r.1 r.0 is) r.2 (r.0, w, l))

  pub round_fan : (t : Side) (h : HalfEdgeId) (gs : List HalfEdgeId) (v : Point) → Has f h → spot f h ≡ v → RoundOn f t h gs → Fan quadratics t (row f t v h gs)
  round_fan Left h gs v w is r = left_fan h gs v w is r
  round_fan Right h gs v w is r =
      subst (Fan quadratics Right) (reverse-reverse (row f Right v h gs)) (fan_reverse quadratic_ring Left (reverse (row f Right v h gs)) (both_ways h gs [] v w is r tt))
