-- Every run of a walk makes a fan (`fan_bound`). The crossings of a run go round its vertex corner by corner, so its rays are rays of one fan of the surface;
-- the last of them is moved inward where the walk ends, and the first where it begins.
use Rattle.std.proofs.Common.{◌≡◌, ◌⊎◌, List, [], ◌∷◌, ◌++◌, Some, sym, refl, ap, ◌∙◌, subst, inl, inr, arith}
use Rattle.std.proofs.lemmas.List.{append_assoc}
use Rattle.base.specs.declared.ids.TriangleId.{TriangleId}
use Rattle.base.specs.declared.ids.HalfEdgeId.{HalfEdgeId}
use Rattle.base.specs.Ids.{triangle_of}
use Rattle.algebra.specs.Number.{Number, Positive, quadratics}
use Rattle.algebra.proofs.OrderedRing.{nn_pos}
use Rattle.algebra.proofs.Quadratics.{quadratic_ring}
use Rattle.geometry.specs.Plane.{Point}
use Rattle.words.specs.declared.sorts.Crossing.{Crossing}
use Rattle.words.specs.Sorts.{recrossed}
use Rattle.words.specs.Words.{Reduced}
use Rattle.taut.specs.declared.Side.{Side}
use Rattle.taut.specs.Sleeve.{other, Portal, end, veer, Keeps}
use Rattle.taut.specs.Fan.{Sector, Fan, Run, ends, leaves, goes_on, Round, LaterRounds, FanBound}
use Rattle.taut.proofs.FanParts.{fan_first, fan_last}
use Rattle.mesh.specs.Surface.{Surface, spot}
use Rattle.mesh.specs.Sound.{Sound}
use Rattle.walks.specs.Walks.{Walk, portal_of, portals, Inside}
use Rattle.walks.proofs.TurnSigns.{◌⟶◌}
use Rattle.walks.proofs.Triangles.{near, far, inside_near, inside_far}
use Rattle.walks.proofs.RoundVertices.{Follows, RoundOn, fars, row, round_fan}
use Rattle.walks.proofs.Crossings.{Crossed, before, after, GoesOn, near_far, after_triangle, before_triangle, leaves_by, end_at, far_end_at, entered_within, before_within, after_within, goes_round, same_end, same_far_end, goes_on_round, kept_round}

-- ---- what a run can be
run_end : (t : Side) (e : Point) {p : Portal Number} {rs : List Point} → Run quadratics t e p [] rs → rs ≡ ((end t p).point ⟶ e) ∷ []
run_end t e ends = refl

run_next : (t : Side) (e : Point) {p q : Portal Number} {ps : List (Portal Number)} {rs : List Point} → Run quadratics t e p (q ∷ ps) rs
    → (Keeps quadratics (other t) p q × (rs ≡ ((end t p).point ⟶ (end t q).point) ∷ []))
    ⊎ ((rs' : List Point) × Keeps quadratics t p q × Run quadratics t e q ps rs' × (rs ≡ ((end t p).point ⟶ (end (other t) q).point) ∷ rs'))
run_next t e (leaves k) = inl (k, refl)
run_next t e (goes_on {rs = rs} k r) = inr (rs, k, r, refl)

pub reduced_tail : (c : Crossing) (w : List Crossing) → Reduced recrossed (c ∷ w) → Reduced recrossed w
reduced_tail c w r v v' x e = r (c ∷ v) v' x (ap (λ l. c ∷ l) e)

-- the crossing after one of the surface is one too
pub crossed_next : (f : Surface) → Sound f → (c d : Crossing) → Crossed f c → triangle_of d.left ≡ triangle_of c.entered → f.twin d.left ≡ Some d.entered → Crossed f d
crossed_next f sound c d k e t = let q = ap (λ x. x.0) e in let w = entered_within f sound c k in record { has = omega arith; twin = t }

module _ (f : Surface) (sound : Sound f) where
  -- a point inside the triangle, seen from one of its corners v
  inside_sector : (u : TriangleId) (p : Point) → Inside f u p → (h : HalfEdgeId) (v : Point) → triangle_of h ≡ u → spot f h ≡ v → (t : Side)
      → Sector quadratics t (v ⟶ p) (v ⟶ spot f (near t h)) (v ⟶ spot f (far t h)) × Positive (veer quadratics t (v ⟶ spot f (near t h)) (v ⟶ p)) × Positive (veer quadratics t (v ⟶ p) (v ⟶ spot f (far t h)))
  inside_sector u p i h v e is t =
      let a = subst (λ v. Positive (veer quadratics t (v ⟶ spot f (near t h)) (v ⟶ p))) is (inside_near f u p i h e t) in
      let b = subst (λ v. Positive (veer quadratics t (v ⟶ p) (v ⟶ spot f (far t h)))) is (inside_far f u p i h e t) in
      ((nn_pos quadratic_ring a, nn_pos quadratic_ring b), a, b)

  module _ (u : TriangleId) (e : Point) (finish : Inside f u e) where
    -- the rays of the run, after others that make a fan with every row of corners from here
    pub run_fan : (t : Side) (c : Crossing) (w : List Crossing) (v : Point) (front rs : List Point) → Crossed f c → Walk f (triangle_of c.entered) w u → Reduced recrossed (c ∷ w) → spot f (after t c) ≡ v
        → ((gs : List HalfEdgeId) → RoundOn f t (after t c) gs → Fan quadratics t (front ++ row f t v (after t c) gs))
        → Run quadratics t e (portal_of f c) (portals f w) rs → Fan quadratics t (front ++ ((v ⟶ spot f (near t (after t c))) ∷ rs))
    run_fan t c [] v front rs k walk r is fan run =
        let here : (end t (portal_of f c)).point ≡ v = ap (λ x. x.point) (end_at f t c) ∙ ap f.point (same_end f sound t c k) ∙ is in
        let i = inside_sector u e finish (after t c) v (after_triangle t c ∙ walk) is t in
        subst (λ l. Fan quadratics t (front ++ ((v ⟶ spot f (near t (after t c))) ∷ l))) (sym (run_end t e run ∙ ap (λ x. (x ⟶ e) ∷ []) here))
        (fan_last quadratic_ring t front (v ⟶ spot f (near t (after t c))) (v ⟶ spot f (far t (after t c))) (v ⟶ e) (fan [] tt) i.0 i.1)
    run_fan t c (d ∷ w) v front rs k walk r is fan run =
        let here : (end t (portal_of f c)).point ≡ v = ap (λ x. x.point) (end_at f t c) ∙ ap f.point (same_end f sound t c k) ∙ is in
        let ways = goes_on_round f sound c d w k walk.0 walk.1 r in
        let kd = crossed_next f sound c d k walk.0 walk.1 in
        let n : Point = v ⟶ spot f (near t (after t c)) in
        elim (run_next t e run) [
          | inl out ↦
              let there : (end t (portal_of f d)).point ≡ spot f (far t (after t c)) =
              ap (λ x. x.point) (end_at f t d) ∙ ap (spot f) (leaves_by t c d (kept_round f sound (other t) c d k ways out.0)) in
              subst (λ l. Fan quadratics t (front ++ (n ∷ l))) (sym (out.1 ∙ ap (λ x. (x ⟶ (end t (portal_of f d)).point) ∷ []) here ∙ ap (λ x. (v ⟶ x) ∷ []) there)) (fan [] tt)
          | inr more ↦
              let on : before t d ≡ after t c = kept_round f sound t c d k ways more.1 in
              let m : Point = v ⟶ spot f (near t (after t d)) in
              let shared : spot f (far t (after t c)) ≡ spot f (near t (after t d)) = ap (λ h. spot f (far t h)) (sym on) ∙ ap f.point (same_far_end f sound t d kd) in
              let there : (end (other t) (portal_of f d)).point ≡ spot f (near t (after t d)) = ap (λ x. x.point) (far_end_at f t d) ∙ ap f.point (same_far_end f sound t d kd) in
              let rest : Fan quadratics t ((front ++ (n ∷ [])) ++ (m ∷ more.0)) =
              run_fan t d w v (front ++ (n ∷ [])) more.0 kd walk.2 (reduced_tail c (d ∷ w) r) (ap f.point (sym (same_end f sound t d kd)) ∙ ap (spot f) on ∙ is)
              (λ gs round.
              let all : Fan quadratics t (front ++ row f t v (after t c) (after t d ∷ gs)) =
              fan (after t d ∷ gs) (subst (λ h. Follows f t h (after t d)) on (goes_round f sound t d kd), after_within f sound t d kd, round) in
              subst (Fan quadratics t) (sym (append_assoc front (n ∷ []) (row f t v (after t d) gs))) (subst (λ x. Fan quadratics t (front ++ (n ∷ (v ⟶ x) ∷ fars f t v (after t d ∷ gs)))) shared all))
              more.2 in
              subst (λ l. Fan quadratics t (front ++ (n ∷ l))) (sym (more.3 ∙ ap (λ x. (x ⟶ (end (other t) (portal_of f d)).point) ∷ more.0) here ∙ ap (λ x. (v ⟶ x) ∷ more.0) there))
              (subst (Fan quadratics t) (append_assoc front (n ∷ []) (m ∷ more.0)) rest)
        ]

    -- a run with the ray to y before it, where y makes a fan with every row of corners from the portal's end on
    round : (t : Side) (c : Crossing) (w : List Crossing) (y : Point) → Crossed f c → Walk f (triangle_of c.entered) w u → Reduced recrossed (c ∷ w)
        → ((gs : List HalfEdgeId) → RoundOn f t (before t c) gs → Fan quadratics t ((spot f (before t c) ⟶ y) ∷ (spot f (before t c) ⟶ spot f (far t (before t c))) ∷ fars f t (spot f (before t c)) gs))
        → Round quadratics t y (portal_of f c) (portals f w) e
    round t c w y k walk r fan rs run =
        let v : Point = spot f (before t c) in
        let shared : spot f (far t (before t c)) ≡ spot f (near t (after t c)) = ap f.point (same_far_end f sound t c k) in
        let made : Fan quadratics t ((v ⟶ y) ∷ (v ⟶ spot f (near t (after t c))) ∷ rs) =
        run_fan t c w v ((v ⟶ y) ∷ []) rs k walk r (ap f.point (sym (same_end f sound t c k)))
        (λ gs on. subst (λ x. Fan quadratics t ((v ⟶ y) ∷ (v ⟶ x) ∷ fars f t v (after t c ∷ gs))) shared (fan (after t c ∷ gs) (goes_round f sound t c k, after_within f sound t c k, on)))
        run in
        let near_end : spot f (near t (after t c)) ≡ (end (other t) (portal_of f c)).point = sym (ap (λ x. x.point) (far_end_at f t c) ∙ shared) in
        subst (λ x. Fan quadratics t ((x.point ⟶ y) ∷ (x.point ⟶ (end (other t) (portal_of f c)).point) ∷ rs)) (sym (end_at f t c))
        (subst (λ x. Fan quadratics t ((v ⟶ y) ∷ (v ⟶ x) ∷ rs)) near_end made)

    first_round : (t : Side) (c : Crossing) (w : List Crossing) (s : Point) → Crossed f c → Inside f (triangle_of c.left) s → Walk f (triangle_of c.entered) w u → Reduced recrossed (c ∷ w) → Round quadratics t s (portal_of f c) (portals f w) e
    first_round t c w s k start walk r =
        let g : HalfEdgeId = before t c in
        let v : Point = spot f g in
        let i = inside_sector (triangle_of c.left) s start g v (before_triangle t c) refl t in
        round t c w s k walk r
        (λ gs on. fan_first quadratic_ring t (v ⟶ spot f (near t g)) (v ⟶ s) (v ⟶ spot f (far t g)) (fars f t v gs) (round_fan f sound t g gs v (before_within f sound t c k) refl on) i.0 i.2)

    -- d goes on round the other end: a run begins on this side
    later_round : (t : Side) (c d : Crossing) (w : List Crossing) → Crossed f c → Crossed f d → GoesOn (other t) c d → Walk f (triangle_of d.entered) w u → Reduced recrossed (d ∷ w) → Round quadratics t (end t (portal_of f c)).point (portal_of f d) (portals f w) e
    later_round t c d w k kd on walk r =
        let v : Point = spot f (before t d) in
        let y : spot f (near t (before t d)) ≡ (end t (portal_of f c)).point =
        ap (λ h. spot f (near t h)) (leaves_by t c d on) ∙ ap (spot f) (near_far t (after t c)) ∙ ap f.point (sym (same_end f sound t c k)) ∙ sym (ap (λ x. x.point) (end_at f t c)) in
        round t d w (end t (portal_of f c)).point kd walk r
        (λ gs round. subst (λ x. Fan quadratics t ((v ⟶ x) ∷ (v ⟶ spot f (far t (before t d))) ∷ fars f t v gs)) y (round_fan f sound t (before t d) gs v (before_within f sound t d kd) refl round))

    later_rounds : (c : Crossing) (w : List Crossing) → Crossed f c → Walk f (triangle_of c.entered) w u → Reduced recrossed (c ∷ w) → LaterRounds quadratics (portal_of f c) (portals f w) e
    later_rounds c [] k walk r = tt
    later_rounds c (d ∷ w) k walk r =
        let ways = goes_on_round f sound c d w k walk.0 walk.1 r in
        let kd = crossed_next f sound c d k walk.0 walk.1 in
        let rest = reduced_tail c (d ∷ w) r in
        (λ t keeps. later_round t c d w k kd (kept_round f sound (other t) c d k ways keeps) walk.2 rest, later_rounds d w kd walk.2 rest)

    pub fan_bound : (s : Point) (c : Crossing) (w : List Crossing) → Crossed f c → Inside f (triangle_of c.left) s → Walk f (triangle_of c.entered) w u → Reduced recrossed (c ∷ w) → FanBound quadratics s (portals f (c ∷ w)) e
    fan_bound s c w k start walk r = (λ t. first_round t c w s k start walk r, later_rounds c w k walk r)
