-- Fans of the sheet. Of the four squares round a vertex the one with odd column and odd row is never kept. A corner's place in its fan is how many
-- rays it is on from that square: at most four. So going back from a corner ends, and no first ray comes round again.
use Rattle.std.proofs.Common.{◌≡◌, ℕ, zero, suc, ◌+◌, ◌-◌, ◌%◌, ◌<◌, ◌≤◌, cond, Some, None, Option, sym, refl, ap, ◌∙◌, subst, ap₂, arith}
use Rattle.std.proofs.lemmas.Bool.Decides.{nat_tests}
use Rattle.base.specs.declared.ids.HalfEdgeId.{HalfEdgeId}
use Rattle.base.specs.Ids.{next, previous}
use Rattle.algebra.specs.Arithmetic.{Nn}
use Rattle.algebra.specs.Number.{quadratics}
use Rattle.algebra.proofs.OrderedRing.{nn_eq}
use Rattle.algebra.proofs.Quadratics.{quadratic_ring}
use Rattle.geometry.specs.Plane.{step}
use Rattle.mesh.specs.Surface.{Surface, spot, on, Later, one, more, Opens, edge, across, Covers}
use Rattle.surfaces.specs.Sheet.{Cell, odd, Edge, bottom, right, down, up, top, left, code, opposite, corner_column, corner_row, grid_point, sheet}
use Rattle.surfaces.proofs.Turns.{◌⋀◌, not_right}
use Rattle.surfaces.proofs.SheetCells.{Kept}
use Rattle.surfaces.proofs.SheetTwins.{after, before, next_code, previous_code, Crossed, crossed, shares}
use Rattle.surfaces.proofs.SheetGrid.{onward, along, spot_at, step_next, step_previous, one_behind, two_behind, four_ahead, five_ahead}

-- the rays of a vertex by number, and the one at which the square with odd column and row ends
abbrev ray : Edge → ℕ
ray bottom = 0
ray up = 1
ray right = 2
ray top = 3
ray down = 4
ray left = 5

abbrev hole_end : ℕ → ℕ → ℕ
hole_end c r = cond (odd c) (cond (odd r) 2 0) (cond (odd r) 3 5)

abbrev turned : ℕ → Edge → ℕ
turned z e = (ray e + 6 - z) % 6

abbrev rank : Cell → Edge → ℕ
rank q e = turned (hole_end (corner_column q e) (corner_row q e)) e

end_small : (c r : ℕ) → hole_end c r ≤ 5
end_small c r = grind (arith, nat_tests)

rank_small : (a b : ℕ) (q : Cell) → Kept a b q → (e : Edge) → rank q e ≤ 4
rank_small a b q k bottom = grind (arith, nat_tests, k.no_hole)
rank_small a b q k right = grind (arith, nat_tests, k.no_hole)
rank_small a b q k down = grind (arith, nat_tests, k.no_hole)
rank_small a b q k up = grind (arith, nat_tests, k.no_hole)
rank_small a b q k top = grind (arith, nat_tests, k.no_hole)
rank_small a b q k left = grind (arith, nat_tests, k.no_hole)

turned_on : (z : ℕ) (e : Edge) → z ≤ 5 → turned z e ≤ 4 → turned z (onward e) ≡ turned z e + 1
turned_on z bottom h k = omega arith
turned_on z right h k = omega arith
turned_on z down h k = omega arith
turned_on z up h k = omega arith
turned_on z top h k = omega arith
turned_on z left h k = omega arith

-- the half-edge before a ray: across the side that leaves the corner
abbrev backward : Edge → Edge
backward e = after (opposite e)

on_back : (e : Edge) → onward (backward e) ≡ e
on_back bottom = refl
on_back right = refl
on_back down = refl
on_back up = refl
on_back top = refl
on_back left = refl

on_is : (e : Edge) → opposite (before e) ≡ onward e
on_is bottom = refl
on_is right = refl
on_is down = refl
on_is up = refl
on_is top = refl
on_is left = refl

back_is : (e : Edge) → after (before e) ≡ e
back_is bottom = refl
back_is right = refl
back_is down = refl
back_is up = refl
back_is top = refl
back_is left = refl

-- two half-edges that begin at one vertex
pub record Meets (q : Cell) (e : Edge) (p : Cell) (x : Edge) : Type 0 where
  pub columns : corner_column q e ≡ corner_column p x
  pub rows : corner_row q e ≡ corner_row p x

rank_on : (q : Cell) (e : Edge) (p : Cell) → Meets q e p (onward e) → rank q e ≤ 4 → rank p (onward e) ≡ rank q e + 1
rank_on q e p m h =
    ap (λ z. turned z (onward e)) (sym (ap₂ hole_end m.columns m.rows))
    ∙ turned_on (hole_end (corner_column q e) (corner_row q e)) e (end_small (corner_column q e) (corner_row q e)) h

rank_back : (q : Cell) (e : Edge) (p : Cell) → Meets q e p (backward e) → rank p (backward e) ≤ 4 → rank q e ≡ rank p (backward e) + 1
rank_back q e p m h = ap (rank q) (sym (on_back e)) ∙ rank_on p (backward e) q met h
  where
    met : Meets p (backward e) q (onward (backward e))
    met = subst (λ x. Meets p (backward e) q x) (sym (on_back e)) (record { columns = sym m.columns; rows = sym m.rows })

module _ (a b g : ℕ) where
  abbrev f : Surface
  f = sheet a b g

  -- ---- going back ends
  opens_by : (n : ℕ) → ((p : Cell) → Kept a b p → (x : Edge) → rank p x < n → Opens f (code a p x)) → (q : Cell) → Kept a b q → (e : Edge) → rank q e < suc n → (o : Option HalfEdgeId) → f.twin (code a q e) ≡ o → Opens f (code a q e)
  opens_by n earlier q k e h None t = edge t
  opens_by n earlier q k e h (Some d) t =
      let c = crossed a b g q k e d t in
      let s = shares q e c.far c.there in
      let m : Meets q e c.far (backward e) = record { columns = s.from_column; rows = s.from_row } in
      let r = rank_small a b c.far c.keeps (backward e) in
      across t (subst (Opens f) (sym (ap next c.is ∙ next_code a c.far (opposite e))) (earlier c.far c.keeps (backward e) (omega (arith, rank_back q e c.far m r))))

  opens : (n : ℕ) (q : Cell) → Kept a b q → (e : Edge) → rank q e < n → Opens f (code a q e)
  opens zero q k e h = absurd (omega arith)
  opens (suc n) q k e h = opens_by n (λ p l x i. opens n p l x i) q k e h (f.twin (code a q e)) refl

  pub opens_at : (q : Cell) → Kept a b q → (e : Edge) → Opens f (code a q e)
  opens_at q k e = opens 5 q k e (omega (arith, rank_small a b q k e))

  -- ---- no first ray comes round again
  abbrev rays_on : ℕ → Edge → Edge
  rays_on zero e = e
  rays_on (suc n) e = onward (rays_on n e)

  -- a corner some rays on in the fan of another
  record Round (q : Cell) (e : Edge) (n : ℕ) (h : HalfEdgeId) : Type 0 where
    far : Cell
    keeps : Kept a b far
    is : h ≡ code a far (rays_on n e)
    meets : Meets q e far (rays_on n e)
    ranks : rank far (rays_on n e) ≡ rank q e + n

  goes_on : (q : Cell) (e : Edge) (n : ℕ) (d h : HalfEdgeId) → Round q e n d → on f d ≡ Some h → Round q e (suc n) h
  goes_on q e n d h r o = record {
    far = c.far;
    keeps = c.keeps;
    is = c.is ∙ ap (code a c.far) (on_is x);
    meets = record { columns = r.meets.columns ∙ m.columns; rows = r.meets.rows ∙ m.rows };
    ranks = rank_on r.far x c.far m (rank_small a b r.far r.keeps x) ∙ omega (arith, r.ranks);
  }
    where
      x : Edge
      x = rays_on n e

      c : Crossed a b r.far (before x) h
      c = crossed a b g r.far r.keeps (before x) h (ap f.twin (sym (ap previous r.is ∙ previous_code a r.far x)) ∙ o)

      m : Meets r.far x c.far (onward x)
      m = subst (λ y. Meets r.far x c.far y) (on_is x) (subst (λ y. Meets r.far y c.far (opposite (before x))) (back_is x)
          (record { columns = (shares r.far (before x) c.far c.there).to_column; rows = (shares r.far (before x) c.far c.there).to_row }))

  round : (q : Cell) (e : Edge) → Kept a b q → {h : HalfEdgeId} → Later f (code a q e) h → (n : ℕ) × Round q e (suc n) h
  round q e k (one o) = (0, goes_on q e 0 (code a q e) _ (record { far = q; keeps = k; is = refl; meets = record { columns = refl; rows = refl }; ranks = omega arith }) o)
  round q e k (more {g = d} l o) = let r = round q e k l in (suc r.0, goes_on q e (suc r.0) d _ r.1 o)

  -- what covering would say of the two rays
  rays_in : (q : Cell) (e : Edge) (n : ℕ) (h : HalfEdgeId) → Kept a b q → Round q e n h → Covers f (code a q e) h → Nn quadratics (along g (rays_on n e) ⋀ along g e) × Nn quadratics (along g e ⋀ along g (onward (rays_on n e)))
  rays_in q e n h k r v =
      let x = rays_on n e in
      let s = code a q e in
      let d = code a r.far x in
      let w : Covers f s d = subst (Covers f s) r.is v in
      let same : spot f d ≡ spot f s = spot_at a b g r.far r.keeps x ∙ sym (ap₂ (grid_point g) r.meets.columns r.meets.rows) ∙ sym (spot_at a b g q k e) in
      let first = ap (λ z. step z (spot f (next s))) same ∙ step_next a b g q k e in (
        nn_eq quadratic_ring (ap₂ ◌⋀◌ (step_next a b g r.far r.keeps x) first) (not_right (spot f d) (spot f (next d)) (spot f (next s)) w.0),
        nn_eq quadratic_ring (ap₂ ◌⋀◌ first (step_previous a b g r.far r.keeps x)) (not_right (spot f d) (spot f (next s)) (spot f (previous d)) w.1),
      )

  clear_of : 0 < g → (n : ℕ) (e : Edge) → n < 4 → Nn quadratics (along g (rays_on (suc n) e) ⋀ along g e) × Nn quadratics (along g e ⋀ along g (onward (rays_on (suc n) e))) → ⊥
  clear_of wide zero e h v = v.0.not_neg (one_behind g wide e)
  clear_of wide (suc zero) e h v = v.0.not_neg (two_behind g wide e)
  clear_of wide (suc (suc zero)) e h v = v.1.not_neg (four_ahead g wide e)
  clear_of wide (suc (suc (suc zero))) e h v = v.1.not_neg (five_ahead g wide e)
  clear_of wide (suc (suc (suc (suc n)))) e h v = omega arith

  pub falls_short : 0 < g → (q : Cell) → Kept a b q → (e : Edge) (h : HalfEdgeId) → Later f (code a q e) h → Covers f (code a q e) h → ⊥
  falls_short wide q k e h l v =
      let r = round q e k l in
      clear_of wide r.0 e (omega (arith, r.1.ranks, rank_small a b r.1.far r.1.keeps (rays_on (suc r.0) e))) (rays_in q e (suc r.0) h k r.1 v)
