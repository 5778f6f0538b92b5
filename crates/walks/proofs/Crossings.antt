-- A crossing goes round both ends of its portal at once: to the left round the left end and to the right round the right end (`goes_round`).
-- Of two crossings in a row that are no spur the second goes on round one of these ends (`goes_on_round`), and its portal keeps that end:
-- its other end is the third vertex of the triangle between them, strictly in front (`keeps`).
use Rattle.std.proofs.Common.{◌≡◌, ◌+◌, ◌-◌, ◌%◌, ◌⊎◌, List, [], ◌∷◌, Some, sym, refl, ap, ◌∙◌, subst, inl, inr, arith}
use Rattle.base.specs.declared.ids.HalfEdgeId.{HalfEdgeId}
use Rattle.base.specs.declared.ids.VertexId.{VertexId}
use Rattle.base.specs.Ids.{vertex, triangle, half_edge, triangle_of, next, previous}
use Rattle.algebra.specs.Number.{Number, Positive, quadratics}
use Rattle.algebra.proofs.OrderedRing.{pos_eq}
use Rattle.algebra.proofs.Quadratics.{ordered_ring, quadratic_ring}
use Rattle.geometry.specs.Plane.{Point}
use Rattle.words.specs.declared.sorts.Crossing.{Crossing}
use Rattle.words.specs.Sorts.{recrossed}
use Rattle.words.specs.Words.{Reduced}
use Rattle.taut.specs.declared.Side.{Side}
use Rattle.taut.specs.declared.Side.TheVariants.{Left, Right}
use Rattle.taut.specs.Sleeve.{other, Vertex, Portal, end, veer, Front, Keeps, Link}
use Rattle.taut.proofs.Veer.{self, still}
use Rattle.mesh.specs.Surface.{Surface, Has, Twins, spot}
use Rattle.mesh.specs.Sound.{Sound}
use Rattle.mesh.proofs.FanSteps.{some_same, previous_next, next_within}
use Rattle.walks.specs.Walks.{vertex_at, portal_of}
use Rattle.walks.proofs.TurnSigns.{◌⟶◌}
use Rattle.walks.proofs.Triangles.{near, far, one_of_three, corner_turns}
use Rattle.walks.proofs.RoundVertices.{Follows, same_vertex, shared_ray}

-- a crossing that is one of the surface
pub record Crossed (f : Surface) (c : Crossing) : Type 0 where
  pub has : Has f c.left
  pub twin : f.twin c.left ≡ Some c.entered

-- the corner at the portal's end on a side, before the crossing and after it
abbrev pub before : Side → Crossing → HalfEdgeId
before Left c = next c.left
before Right c = c.left

abbrev pub after : Side → Crossing → HalfEdgeId
after Left c = c.entered
after Right c = next c.entered

-- the second crossing goes on round the end on that side
abbrev pub GoesOn : Side → Crossing → Crossing → Type 0
GoesOn t c d = before t d ≡ after t c

-- ---- codes
pub next_next : (h : HalfEdgeId) → next (next h) ≡ previous h
next_next h = ap half_edge (omega arith)

pub same_triangle : (h : HalfEdgeId) → triangle_of (next h) ≡ triangle_of h
same_triangle h = ap triangle (omega arith)

pub near_far : (t : Side) (h : HalfEdgeId) → near t (far t h) ≡ h
near_far Left h = ap half_edge (omega arith)
near_far Right h = ap half_edge (omega arith)

pub third_corner : (t : Side) (c : Crossing) → far t (after t c) ≡ previous c.entered
third_corner Left c = refl
third_corner Right c = next_next c.entered

pub after_triangle : (t : Side) (c : Crossing) → triangle_of (after t c) ≡ triangle_of c.entered
after_triangle Left c = refl
after_triangle Right c = same_triangle c.entered

pub before_triangle : (t : Side) (c : Crossing) → triangle_of (before t c) ≡ triangle_of c.left
before_triangle Left c = same_triangle c.left
before_triangle Right c = refl

-- a crossing that goes on round the other end has the third corner on this side
pub leaves_by : (t : Side) (c d : Crossing) → GoesOn (other t) c d → before t d ≡ far t (after t c)
leaves_by Left c d e = ap next e ∙ next_next c.entered
leaves_by Right c d e = sym (previous_next d.left) ∙ ap previous e ∙ sym (next_next c.entered)

pub three_ways : (g h : HalfEdgeId) → triangle_of g ≡ triangle_of h → (g ≡ h) ⊎ ((next g ≡ h) ⊎ (g ≡ next h))
three_ways g h e =
    let q = ap (λ x. x.0) e in
    elim (one_of_three ((g.0 % 3 + (3 - h.0 % 3)) % 3) (omega arith)) [
      | inl k ↦ inl (ap half_edge (omega arith))
      | inr (inl k) ↦ inr (inr (ap half_edge (omega arith)))
      | inr (inr k) ↦ inr (inl (ap half_edge (omega arith)))
    ]

-- a point in front of a portal is neither of its ends
front_ends : (s : Side) (p : Portal Number) → Front quadratics p (end s p).point → ⊥
front_ends Left p h = ordered_ring.order.pos_nil (pos_eq quadratic_ring (still quadratic_ring Right p.left.point (p.left.point ⟶ p.right.point)) h)
front_ends Right p h = ordered_ring.order.pos_nil (pos_eq quadratic_ring (self quadratic_ring Left (p.left.point ⟶ p.right.point)) h)

module _ (f : Surface) where
  vertex_of : VertexId → Vertex Number
  vertex_of v = record { number = v.0; point = f.point v }

  pub same_vertex_at : (g h : HalfEdgeId) → f.corner g ≡ f.corner h → vertex_at f g ≡ vertex_at f h
  unfolding vertex_of
  same_vertex_at g h e = ap vertex_of e

  pub end_at : (t : Side) (c : Crossing) → end t (portal_of f c) ≡ vertex_at f (before t c)
  end_at Left c = refl
  end_at Right c = refl

  pub far_end_at : (t : Side) (c : Crossing) → end (other t) (portal_of f c) ≡ vertex_at f (far t (before t c))
  far_end_at Left c = ap (vertex_at f) (sym (previous_next c.left))
  far_end_at Right c = refl

  module _ (sound : Sound f) where
    twins_of : (c : Crossing) → Crossed f c → Twins f c.left c.entered
    twins_of c k = sound.twins c.left k.has c.entered k.twin

    pub entered_within : (c : Crossing) → Crossed f c → Has f c.entered
    entered_within c k = (twins_of c k).within

    pub before_within : (t : Side) (c : Crossing) → Crossed f c → Has f (before t c)
    before_within Left c k = next_within f c.left k.has
    before_within Right c k = k.has

    pub after_within : (t : Side) (c : Crossing) → Crossed f c → Has f (after t c)
    after_within Left c k = entered_within c k
    after_within Right c k = next_within f c.entered (entered_within c k)

    pub goes_round : (t : Side) (c : Crossing) → Crossed f c → Follows f t (before t c) (after t c)
    goes_round Left c k = ap f.twin (previous_next c.left) ∙ k.twin
    goes_round Right c k = ap f.twin (previous_next c.entered) ∙ (twins_of c k).back

    pub same_end : (t : Side) (c : Crossing) → Crossed f c → f.corner (before t c) ≡ f.corner (after t c)
    same_end t c k = same_vertex f sound t (before t c) (after t c) (before_within t c k) (after_within t c k) (goes_round t c k)

    pub same_far_end : (t : Side) (c : Crossing) → Crossed f c → f.corner (far t (before t c)) ≡ f.corner (near t (after t c))
    same_far_end t c k = shared_ray f sound t (before t c) (after t c) (before_within t c k) (after_within t c k) (goes_round t c k)

    -- seen from the triangle entered, the portal is the side entered
    pub in_front : (c : Crossing) → Crossed f c → (p : Point) → Positive (veer quadratics Left (spot f c.entered ⟶ spot f (next c.entered)) (spot f c.entered ⟶ p)) → Front quadratics (portal_of f c) p
    in_front c k p h =
        let left : spot f c.entered ≡ spot f (next c.left) = ap f.point (sym (twins_of c k).to) in
        let right : spot f (next c.entered) ≡ spot f c.left = ap f.point (sym (twins_of c k).from) in
        subst (λ r. Positive (veer quadratics Left (spot f (next c.left) ⟶ r) (spot f (next c.left) ⟶ p))) right
        (subst (λ l. Positive (veer quadratics Left (l ⟶ spot f (next c.entered)) (l ⟶ p))) left h)

    third_in_front : (c : Crossing) → Crossed f c → Front quadratics (portal_of f c) (spot f (previous c.entered))
    third_in_front c k = in_front c k (spot f (previous c.entered)) (corner_turns f sound c.entered (entered_within c k) Left)

    pub keeps : (t : Side) (c d : Crossing) → Crossed f c → GoesOn t c d → Keeps quadratics t (portal_of f c) (portal_of f d)
    keeps t c d k on =
        let new : end (other t) (portal_of f d) ≡ vertex_at f (previous c.entered) =
        far_end_at t d ∙ ap (λ h. vertex_at f (far t h)) on ∙ ap (vertex_at f) (third_corner t c) in
        let front = third_in_front c k in (
          end_at t d ∙ ap (vertex_at f) on ∙ sym (same_vertex_at (before t c) (after t c) (same_end t c k)) ∙ sym (end_at t c),
          subst (λ v. Front quadratics (portal_of f c) v.point) (sym new) front,
          λ e.
              let same : (f.corner (previous c.entered)).0 ≡ (f.corner (far t (before t c))).0 =
              sym (ap (λ v. v.number) new) ∙ e ∙ ap (λ v. v.number) (far_end_at t c) in
              let there : spot f (previous c.entered) ≡ (end (other t) (portal_of f c)).point =
              ap (λ n. f.point (vertex n)) same ∙ sym (ap (λ v. v.point) (far_end_at t c)) in
              front_ends (other t) (portal_of f c) (subst (Front quadratics (portal_of f c)) there front),
        )

    -- a crossing followed by one out of the triangle entered: it is the way back, or it goes on round one end
    pub goes_on_round : (c d : Crossing) (w : List Crossing) → Crossed f c → triangle_of d.left ≡ triangle_of c.entered → f.twin d.left ≡ Some d.entered → Reduced recrossed (c ∷ d ∷ w)
        → GoesOn Left c d ⊎ GoesOn Right c d
    goes_on_round c d w k e t r = elim (three_ways d.left c.entered e) [
      | inl same ↦
          let back : d.entered ≡ c.left = some_same t (ap f.twin same ∙ (twins_of c k).back) in
          let spur : d ≡ recrossed c = λ i. record { left = same i; entered = back i } in
          absurd (r [] w c (ap (λ x. c ∷ x ∷ w) spur))
      | inr way ↦ way
    ]

    pub link : (c d : Crossing) → Crossed f c → GoesOn Left c d ⊎ GoesOn Right c d → Link quadratics (portal_of f c) (portal_of f d)
    link c d k (inl on) = inl (keeps Left c d k on)
    link c d k (inr on) = inr (keeps Right c d k on)

    -- where the end on a side is kept, the crossing goes on round it
    pub kept_round : (t : Side) (c d : Crossing) → Crossed f c → GoesOn Left c d ⊎ GoesOn Right c d → Keeps quadratics t (portal_of f c) (portal_of f d) → GoesOn t c d
    kept_round Left c d k (inl on) h = on
    kept_round Left c d k (inr on) h = absurd (h.2 (ap (λ v. v.number) (keeps Right c d k on).0))
    kept_round Right c d k (inl on) h = absurd (h.2 (ap (λ v. v.number) (keeps Left c d k on).0))
    kept_round Right c d k (inr on) h = on
