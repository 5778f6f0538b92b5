-- Rays of the fans of a sound surface. No ray lies in the sector of a later corner of its fan (`apart`),
-- and the last ray of a corner lies in the sector of no earlier one (`apart_before`).
use Rattle.std.proofs.Common.{◌≡◌, ℕ, ◌*◌, ◌/◌, ◌%◌, ◌<◌, ◌⊎◌, Some, None, sym, ap, ◌∙◌, subst, ap₂, inl, inr, arith}
use Rattle.std.proofs.lemmas.Bool.Decides.{eqb_tells}
use Rattle.base.specs.declared.ids.TriangleId.{TriangleId}
use Rattle.base.specs.declared.ids.HalfEdgeId.{HalfEdgeId}
use Rattle.base.specs.Ids.{half_edge, side, triangle_of, next, previous}
use Rattle.algebra.specs.Number.{Number, Positive}
use Rattle.algebra.specs.Plane.{Vec}
use Rattle.algebra.proofs.OrderedRing.{pos_eq, nn_eq}
use Rattle.algebra.proofs.Quadratics.{quadratic_ring}
use Rattle.geometry.specs.Plane.{step, turn}
use Rattle.geometry.specs.declared.Turn.TheVariants.{Left}
use Rattle.mesh.specs.Surface.{Surface, Has, spot, Twins, on, Later, one, more, Covers, NotRight}
use Rattle.mesh.specs.Sound.{Sound}
use Rattle.mesh.proofs.FanSteps.{next_previous, previous_within, on_within, later_within, opens_fan}
use Rattle.surfaces.specs.Laws.{RaysApart}
use Rattle.surfaces.proofs.Turns.{◌⋀◌, left_pos, not_right, nn_not_right, turn_rolled}
use Rattle.surfaces.proofs.FanOrder as order
use Rattle.surfaces.proofs.FanOrder.{Phase, early, Before}

abbrev pub In : Vec Number → Vec Number → Vec Number → Type 0
In u r s = order.In quadratic_ring u r s

thirds : (n : ℕ) → (n % 3 ≡ 0) ⊎ ((n % 3 ≡ 1) ⊎ (n % 3 ≡ 2))
thirds n = elim (eqb_tells (n % 3) 0) [
  | inl t ↦ inl t.1
  | inr t ↦ elim (eqb_tells (n % 3) 1) [ inl u ↦ inr (inl u.1) | inr u ↦ inr (inr (omega (arith, t.1, u.1))) ]
]

pub later_cons : {f : Surface} {g h s : HalfEdgeId} → on f h ≡ Some g → Later f g s → Later f h s
later_cons o (one p) = more (one o) p
later_cons o (more l p) = more (later_cons o l) p

module _ (f : Surface) (sound : Sound f) where
  abbrev pub first_ray : HalfEdgeId → Vec Number
  first_ray h = step (spot f h) (spot f (next h))

  abbrev pub last_ray : HalfEdgeId → Vec Number
  last_ray h = step (spot f h) (spot f (previous h))

  spots : {x y z x' y' z' : HalfEdgeId} → x ≡ x' → y ≡ y' → z ≡ z' → turn (spot f x) (spot f y) (spot f z) ≡ turn (spot f x') (spot f y') (spot f z')
  spots p q r = λ i. turn (spot f (p i)) (spot f (q i)) (spot f (r i))

  pub left_turn : (h : HalfEdgeId) → Has f h → turn (spot f h) (spot f (next h)) (spot f (previous h)) ≡ Left
  left_turn h l = elim (thirds h.0) [
    | inl k ↦ spots {x = h} {y = next h} {z = previous h} (ap half_edge (omega arith)) (ap half_edge (omega arith)) (ap half_edge (omega arith)) ∙ t
    | inr (inl k) ↦ spots {x = h} {y = next h} {z = previous h} {x' = side n 1} {y' = side n 2} {z' = side n 0} (ap half_edge (omega arith)) (ap half_edge (omega arith)) (ap half_edge (omega arith)) ∙ sym (turn_rolled (spot f (side n 0)) (spot f (side n 1)) (spot f (side n 2))) ∙ t
    | inr (inr k) ↦ spots {x = h} {y = next h} {z = previous h} {x' = side n 2} {y' = side n 0} {z' = side n 1} (ap half_edge (omega arith)) (ap half_edge (omega arith)) (ap half_edge (omega arith)) ∙ sym (turn_rolled (spot f (side n 0)) (spot f (side n 1)) (spot f (side n 2)) ∙ turn_rolled (spot f (side n 1)) (spot f (side n 2)) (spot f (side n 0))) ∙ t
  ]
    where
      n : TriangleId
      n = triangle_of h

      below : (m k : ℕ) → m < 3 * k → m / 3 < k
      below m k l = omega arith

      t : turn (spot f (side n 0)) (spot f (side n 1)) (spot f (side n 2)) ≡ Left
      t = sound.turns n (below h.0 f.F l)

  ray_turn : (h : HalfEdgeId) → Has f h → Positive (first_ray h ⋀ last_ray h)
  ray_turn h l = left_pos (spot f h) (spot f (next h)) (spot f (previous h)) (left_turn h l)

  -- ---- one corner on
  pub on_twins : (h d : HalfEdgeId) → Has f h → on f h ≡ Some d → Twins f (previous h) d
  on_twins h d l o = sound.twins (previous h) (previous_within f h l) d o

  pub on_spot : (h d : HalfEdgeId) → Has f h → on f h ≡ Some d → spot f d ≡ spot f h
  on_spot h d l o = ap f.point (sym (on_twins h d l o).to ∙ ap f.corner (next_previous h))

  pub on_ray : (h d : HalfEdgeId) → Has f h → on f h ≡ Some d → last_ray h ≡ first_ray d
  on_ray h d l o = ap₂ step (sym (on_spot h d l o)) (ap f.point (on_twins h d l o).from)

  later_has : {s h : HalfEdgeId} → Has f s → Later f s h → Has f h
  later_has l k = later_within f sound.twins l k

  pub later_spot : {s h : HalfEdgeId} → Has f s → Later f s h → spot f h ≡ spot f s
  later_spot {s} {h} l (one o) = on_spot s h l o
  later_spot {s} {h} l (more {g = g} k o) = on_spot g h (later_has l k) o ∙ later_spot l k

  -- ---- no first ray comes round again
  clear : (s h : HalfEdgeId) → Has f s → f.twin s ≡ None → Later f s h → ¬ (In (first_ray s) (first_ray h) (last_ray h))
  clear s h l t k i =
      let e : step (spot f s) (spot f (next s)) ≡ step (spot f h) (spot f (next s)) = ap (λ p. step p (spot f (next s))) (sym (later_spot l k)) in
      sound.spans h (later_has l k) s l t k (
        nn_not_right (spot f h) (spot f (next h)) (spot f (next s)) (nn_eq quadratic_ring (ap (λ v. first_ray h ⋀ v) e) i.0),
        nn_not_right (spot f h) (spot f (next s)) (spot f (previous h)) (nn_eq quadratic_ring (ap (λ v. v ⋀ last_ray h) e) i.1),
      )

  module _ (s₀ : HalfEdgeId) (has : Has f s₀) (rim : f.twin s₀ ≡ None) where
    phase : {s : HalfEdgeId} → Later f s₀ s → Phase quadratic_ring (first_ray s₀) (first_ray s)
    phase {s} (one o) = subst (Phase quadratic_ring (first_ray s₀)) (on_ray s₀ s has o) (early (ray_turn s₀ has))
    phase {s} (more {g = g} k o) =
        subst (Phase quadratic_ring (first_ray s₀)) (on_ray g s (later_has has k) o) (order.phase_on quadratic_ring (phase k) (clear s₀ g has rim k))

    in_order : {s h : HalfEdgeId} → Later f s₀ s → Later f s h → Later f s₀ h × Before quadratic_ring (first_ray s₀) (first_ray s) (first_ray h)
    in_order {s} {h} k (one o) =
        let l = later_has has k in
        (more k o, subst (Before quadratic_ring (first_ray s₀) (first_ray s)) (on_ray s h l o) (order.before_next quadratic_ring (phase k) (ray_turn s l) (clear s₀ s has rim k)))
    in_order {s} {h} k (more {g = g} j o) =
        let r = in_order k j in
        let l = later_has has r.0 in
        (more r.0 o, subst (Before quadratic_ring (first_ray s₀) (first_ray s)) (on_ray g h l o) (order.before_on quadratic_ring r.1 (ray_turn g l) (clear s₀ g has rim r.0)))

    after_first : {s h : HalfEdgeId} → Later f s₀ s → Later f s h → ¬ (In (first_ray s) (first_ray h) (last_ray h))
    after_first {s} {h} k j =
        let r = in_order k j in
        order.before_out quadratic_ring (first_ray s₀) (first_ray s) (first_ray h) (last_ray h) r.1 (ray_turn h (later_has has r.0)) (clear s₀ h has rim r.0)

  pub apart : {s h : HalfEdgeId} → Has f s → Later f s h → ¬ (In (first_ray s) (first_ray h) (last_ray h))
  apart {s} {h} l k =
      let r = opens_fan f sound.twins l (sound.fans s l) in
      elim r.2 [
        | inl e ↦ clear s h l (subst (λ x. f.twin x ≡ None) (sym e) r.1.rim) k
        | inr j ↦ after_first r.0 r.1.has r.1.rim j k
      ]

  pub apart_before : {h s : HalfEdgeId} → Has f h → Later f h s → ¬ (In (last_ray s) (first_ray h) (last_ray h))
  apart_before {h} {s} l (one o) i =
      order.next_out quadratic_ring (first_ray h) (last_ray h) (last_ray s) (pos_eq quadratic_ring (ap (λ v. v ⋀ last_ray s) (sym (on_ray h s l o))) (ray_turn s (on_within f sound.twins h s l o))) i
  apart_before {h} {s} l (more {g = g} k o) i =
      let m = later_has l k in
      let j = order.steps_back quadratic_ring (first_ray h) (last_ray h) (first_ray s) (last_ray s) (ray_turn h l) (ray_turn s (on_within f sound.twins g s m o)) (apart l (more k o)) i in
      apart_before l k (subst (λ v. In v (first_ray h) (last_ray h)) (sym (on_ray g s m o)) j)

  -- the same, said by turns
  pub covers_not : (s h : HalfEdgeId) → Has f s → Later f s h → Covers f s h → ⊥
  covers_not s h l k v =
      let e : step (spot f h) (spot f (next s)) ≡ step (spot f s) (spot f (next s)) = ap (λ p. step p (spot f (next s))) (later_spot l k) in
      apart l k (
        nn_eq quadratic_ring (ap (λ v. first_ray h ⋀ v) e) (not_right (spot f h) (spot f (next h)) (spot f (next s)) v.0),
        nn_eq quadratic_ring (ap (λ v. v ⋀ last_ray h) e) (not_right (spot f h) (spot f (next s)) (spot f (previous h)) v.1),
      )

  pub covers_not_before : (h s : HalfEdgeId) → Has f h → Later f h s → NotRight (turn (spot f h) (spot f (next h)) (spot f (previous s))) × NotRight (turn (spot f h) (spot f (previous s)) (spot f (previous h))) → ⊥
  covers_not_before h s l k v =
      let e : step (spot f h) (spot f (previous s)) ≡ last_ray s = ap (λ p. step p (spot f (previous s))) (sym (later_spot l k)) in
      apart_before l k (
        nn_eq quadratic_ring (ap (λ v. first_ray h ⋀ v) e) (not_right (spot f h) (spot f (next h)) (spot f (previous s)) v.0),
        nn_eq quadratic_ring (ap (λ v. v ⋀ last_ray h) e) (not_right (spot f h) (spot f (previous s)) (spot f (previous h)) v.1),
      )

pub rays_apart : RaysApart
rays_apart f w s h l k = (covers_not f w.sound s h l k, covers_not_before f w.sound s h l k)
