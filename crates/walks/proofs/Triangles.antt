-- The three corners of a triangle are seen alike: each has the next and the previous one in its triangle, and turns left with them (`corner_turns`).
-- A point inside lies at each corner between the two sides that meet there (`inside_near`, `inside_far`).
-- Seen from a corner, `near t` and `far t` are the other two as they are met going round to side t.
use Rattle.std.proofs.Common.{◌≡◌, ℕ, zero, suc, ◌%◌, ◌<◌, ◌⊎◌, sym, refl, ap, subst, inl, inr, arith}
use Rattle.base.specs.declared.ids.TriangleId.{TriangleId}
use Rattle.base.specs.declared.ids.HalfEdgeId.{HalfEdgeId}
use Rattle.base.specs.Ids.{triangle, half_edge, side, triangle_of, next, previous}
use Rattle.algebra.specs.Number.{Positive, quadratics}
use Rattle.algebra.proofs.OrderedRing.{pos_eq}
use Rattle.algebra.proofs.Quadratics.{quadratic_ring}
use Rattle.geometry.specs.Plane.{Point}
use Rattle.taut.specs.declared.Side.{Side}
use Rattle.taut.specs.declared.Side.TheVariants.{Left, Right}
use Rattle.taut.specs.Sleeve.{veer}
use Rattle.taut.proofs.Veer.{cyc}
use Rattle.mesh.specs.Surface.{Surface, Has, spot}
use Rattle.mesh.specs.Sound.{Sound}
use Rattle.mesh.proofs.FanSteps.{next_previous}
use Rattle.walks.specs.Walks.{Inside}
use Rattle.walks.proofs.TurnSigns.{◌⟶◌, left_turn}

abbrev pub near : Side → HalfEdgeId → HalfEdgeId
near Left h = next h
near Right h = previous h

abbrev pub far : Side → HalfEdgeId → HalfEdgeId
far Left h = previous h
far Right h = next h

pub one_of_three : (n : ℕ) → n < 3 → (n ≡ 0) ⊎ ((n ≡ 1) ⊎ (n ≡ 2))
one_of_three zero h = inl refl
one_of_three (suc zero) h = inr (inl refl)
one_of_three (suc (suc zero)) h = inr (inr refl)
one_of_three (suc (suc (suc n))) h = absurd (omega arith)

-- what holds of the three half-edges of a triangle holds of each half-edge in it
each : (t : TriangleId) (P : HalfEdgeId → Type 0) → P (side t 0) → P (side t 1) → P (side t 2) → (h : HalfEdgeId) → triangle_of h ≡ t → P h
each t P a b c h e =
    let q = ap (λ x. x.0) e in
    elim (one_of_three (h.0 % 3) (omega arith)) [
      | inl k ↦ subst P (ap half_edge (omega arith)) a
      | inr (inl k) ↦ subst P (ap half_edge (omega arith)) b
      | inr (inr k) ↦ subst P (ap half_edge (omega arith)) c
    ]

side_next : (t : TriangleId) → (next (side t 0) ≡ side t 1) × (next (side t 1) ≡ side t 2) × (next (side t 2) ≡ side t 0)
side_next t = (ap half_edge (omega arith), ap half_edge (omega arith), ap half_edge (omega arith))

side_previous : (t : TriangleId) → (previous (side t 0) ≡ side t 2) × (previous (side t 1) ≡ side t 0) × (previous (side t 2) ≡ side t 1)
side_previous t = (ap half_edge (omega arith), ap half_edge (omega arith), ap half_edge (omega arith))

module _ (f : Surface) where
  abbrev Turned : Point → Point → Point → Type 0
  Turned a b c = Positive (veer quadratics Left (a ⟶ b) (a ⟶ c))

  turned_on : (a b c : Point) → Turned a b c → Turned b c a
  turned_on a b c h = pos_eq quadratic_ring (cyc quadratic_ring Left a b c) h

  pub corner_turns : Sound f → (h : HalfEdgeId) → Has f h → (t : Side) → Positive (veer quadratics t (spot f h ⟶ spot f (near t h)) (spot f h ⟶ spot f (far t h)))
  corner_turns sound h w =
      let t = triangle_of h in
      let first = left_turn (spot f (side t 0)) (spot f (side t 1)) (spot f (side t 2)) (sound.turns t (omega arith)) in
      let second = turned_on (spot f (side t 0)) (spot f (side t 1)) (spot f (side t 2)) first in
      let third = turned_on (spot f (side t 1)) (spot f (side t 2)) (spot f (side t 0)) second in
      let turns : Turned (spot f h) (spot f (next h)) (spot f (previous h)) =
      each t (λ h. Turned (spot f h) (spot f (next h)) (spot f (previous h)))
      (subst (λ n. Turned (spot f (side t 0)) (spot f n) (spot f (previous (side t 0)))) (sym (side_next t).0) (subst (λ p. Turned (spot f (side t 0)) (spot f (side t 1)) (spot f p)) (sym (side_previous t).0) first))
      (subst (λ n. Turned (spot f (side t 1)) (spot f n) (spot f (previous (side t 1)))) (sym (side_next t).1) (subst (λ p. Turned (spot f (side t 1)) (spot f (side t 2)) (spot f p)) (sym (side_previous t).1) second))
      (subst (λ n. Turned (spot f (side t 2)) (spot f n) (spot f (previous (side t 2)))) (sym (side_next t).2) (subst (λ p. Turned (spot f (side t 2)) (spot f (side t 0)) (spot f p)) (sym (side_previous t).2) third))
      h refl in
      both h turns
    where
      both : (h : HalfEdgeId) → Turned (spot f h) (spot f (next h)) (spot f (previous h)) → (t : Side) → Positive (veer quadratics t (spot f h ⟶ spot f (near t h)) (spot f h ⟶ spot f (far t h)))
      both h turns Left = turns
      both h turns Right = turns

  pub inside_left : (t : TriangleId) (p : Point) → Inside f t p → (h : HalfEdgeId) → triangle_of h ≡ t → Turned (spot f h) (spot f (next h)) p
  inside_left t p i =
      each t (λ h. Turned (spot f h) (spot f (next h)) p)
      (subst (λ n. Turned (spot f (side t 0)) (spot f n) p) (sym (side_next t).0) (left_turn _ _ _ i.first))
      (subst (λ n. Turned (spot f (side t 1)) (spot f n) p) (sym (side_next t).1) (left_turn _ _ _ i.second))
      (subst (λ n. Turned (spot f (side t 2)) (spot f n) p) (sym (side_next t).2) (left_turn _ _ _ i.third))

  pub inside_near : (t : TriangleId) (p : Point) → Inside f t p → (h : HalfEdgeId) → triangle_of h ≡ t → (r : Side) → Positive (veer quadratics r (spot f h ⟶ spot f (near r h)) (spot f h ⟶ p))
  inside_near t p i h e Left = inside_left t p i h e
  inside_near t p i h e Right =
      let back : Turned (spot f (previous h)) (spot f (next (previous h))) p = inside_left t p i (previous h) (ap_triangle h t e) in
      turned_on (spot f (previous h)) (spot f h) p (subst (λ n. Turned (spot f (previous h)) (spot f n) p) (next_previous h) back)
    where
      ap_triangle : (h : HalfEdgeId) (t : TriangleId) → triangle_of h ≡ t → triangle_of (previous h) ≡ t
      ap_triangle h t e = let q = ap (λ x. x.0) e in ap triangle (omega arith)

  pub inside_far : (t : TriangleId) (p : Point) → Inside f t p → (h : HalfEdgeId) → triangle_of h ≡ t → (r : Side) → Positive (veer quadratics r (spot f h ⟶ p) (spot f h ⟶ spot f (far r h)))
  inside_far t p i h e Left = inside_near t p i h e Right
  inside_far t p i h e Right = inside_near t p i h e Left
