-- One turn of the loop on what chains hold: a corner is dropped, or the apex moves on, and the funnel that is left stays the same; or nothing is left to do.
use Rattle.std.proofs.Common.{◌≡◌, ℕ, ◌+◌, ◌-◌, ◌<◌, Bool, true, false, List, [], ◌∷◌, ◌++◌, map, length, sym, refl, ap, ◌∙◌, subst, arith}
use Rattle.algebra.specs.Number.{Number, quadratics, sign}
use Rattle.geometry.specs.Plane.{Point}
use Rattle.taut.specs.declared.Side.{Side}
use Rattle.taut.specs.Sleeve.{other}
use Rattle.taut.specs.TautString.{aim}
use Rattle.taut.specs.Funnel.{Funnel, bears, next}
use Rattle.taut.proofs.Popping.{drops_corner, keeps_corner, moves_apex, keeps_apex}
use Rattle.funnel.specs.declared.Corner.{Corner}
use Rattle.funnel.specs.Corners.{vertex_meant}
use Rattle.funnel.specs.Chains.{bend_of, meant, Holds, settled, Turned}

abbrev one : Bool → ℕ
one true = 1
one false = 0

differ : true ≡ false → ⊥
differ e =
    let no : 1 ≡ 0 = ap one e in
    omega (arith, no)

module _ {P : Type 0} (at : P → Point) (e : Point) (t : Side) (y : Point) where
  -- the corner after a part of the near chain is the next of the funnel
  next_is : (ns bends zs : List (Corner P)) (a d : Corner P) (rest : List (Corner P)) → at a.point ≡ aim quadratics e (map (bend_of at) bends)
      → ns ++ a ∷ zs ≡ d ∷ rest → at d.point ≡ next quadratics e (map (vertex_meant at) ns) (map (bend_of at) bends)
  next_is [] bends zs a d rest top p =
      let same : a ≡ d = cc in
      ap (λ c. at c.point) (sym same) ∙ top
  next_is (x ∷ ns) bends zs a d rest top p =
      let same : x ≡ d = cc in
      ap (λ c. at c.point) (sym same)

  module _ (row bends : List (Corner P)) (near far n : ℕ) (f : Funnel Number) (h : Holds at e row near far bends n f) where
    module _ (c d : Corner P) (rest : List (Corner P)) (first : row ≡ c ∷ d ∷ rest) where
      pub near_stays : 0 < near → bears quadratics sign t y (at c.point) (at d.point) ≡ true → Turned at e t y f row near far bends n false
      near_stays some turns = by h.nears h.apex h.fars h.parts h.near_count h.top h.is
        where
          by : (ns : List (Corner P)) (a : Corner P) (zs : List (Corner P)) → row ≡ ns ++ a ∷ zs → near ≡ length ns → at a.point ≡ aim quadratics e (map (bend_of at) bends)
              → meant at ns bends zs ≡ f → Turned at e t y f row near far bends n false
          by [] a zs p q top is = absurd (omega arith)
          by (x ∷ ns) a zs p q top is =
              let same : x ≡ c = cc in
              let tail : ns ++ a ∷ zs ≡ d ∷ rest = cc in
              let test = (λ i. bears quadratics sign t y (at (same i).point) (sym (next_is ns bends zs a d rest top tail) i)) ∙ turns in
              record {
                now = f;
                holds = h;
                same = refl;
                done = λ _. ap (settled at e t y) (sym is) ∙ keeps_corner quadratics sign e t y (vertex_meant at x) (map (vertex_meant at) ns) (map (vertex_meant at) zs) (map (bend_of at) bends) test ∙ is;
              }

      pub near_drops : (row' : List (Corner P)) → row ≡ c ∷ row' → 0 < near → bears quadratics sign t y (at c.point) (at d.point) ≡ false
          → Turned at e t y f row' (near - 1) far bends n true
      near_drops row' popped some turns = by h.nears h.apex h.fars h.parts h.near_count h.top h.is h.far_count
        where
          by : (ns : List (Corner P)) (a : Corner P) (zs : List (Corner P)) → row ≡ ns ++ a ∷ zs → near ≡ length ns → at a.point ≡ aim quadratics e (map (bend_of at) bends)
              → meant at ns bends zs ≡ f → far ≡ length zs → Turned at e t y f row' (near - 1) far bends n true
          by [] a zs p q top is m = absurd (omega arith)
          by (x ∷ ns) a zs p q top is m =
              let same : x ≡ c = cc in
              let tail : ns ++ a ∷ zs ≡ d ∷ rest = cc in
              let left : row' ≡ ns ++ a ∷ zs = cc in
              let test = (λ i. bears quadratics sign t y (at (same i).point) (sym (next_is ns bends zs a d rest top tail) i)) ∙ turns in
              record {
                now = meant at ns bends zs;
                holds = record { nears = ns; apex = a; fars = zs; parts = left; near_count = omega arith; far_count = m; top = top; is = refl; few = omega (arith, h.few) };
                same = ap (settled at e t y) (sym is) ∙ drops_corner quadratics sign e t y (vertex_meant at x) (map (vertex_meant at) ns) (map (vertex_meant at) zs) (map (bend_of at) bends) test;
                done = λ no. absurd (differ no);
              }

      pub apex_stays : near ≡ 0 → bears quadratics sign (other t) y (at d.point) (at c.point) ≡ false → Turned at e t y f row near far bends n false
      apex_stays none turns = by h.nears h.apex h.fars h.parts h.near_count h.top h.is
        where
          by : (ns : List (Corner P)) (a : Corner P) (zs : List (Corner P)) → row ≡ ns ++ a ∷ zs → near ≡ length ns → at a.point ≡ aim quadratics e (map (bend_of at) bends)
              → meant at ns bends zs ≡ f → Turned at e t y f row near far bends n false
          by (x ∷ ns) a zs p q top is = absurd (omega arith)
          by [] a [] p q top is = absurd (omega (arith, ap length p, ap length first))
          by [] a (z ∷ zs) p q top is =
              let same : c ≡ a = cc in
              let here : z ≡ d = cc in
              let test = (λ i. bears quadratics sign (other t) y (at (here i).point) (sym (ap (λ v. at v.point) same ∙ top) i)) ∙ turns in
              record {
                now = f;
                holds = h;
                same = refl;
                done = λ _. ap (settled at e t y) (sym is) ∙ keeps_apex quadratics sign e t y (vertex_meant at z) (map (vertex_meant at) zs) (map (bend_of at) bends) test ∙ is;
              }

      pub apex_moves : (row' bends' : List (Corner P)) (near' far' : ℕ) (b : Corner P) → row ≡ c ∷ row' → bends' ≡ b ∷ bends → near' ≡ near → far' + 1 ≡ far
          → b.vertex ≡ d.vertex → b.side ≡ other t → b.point ≡ d.point → near ≡ 0
          → bears quadratics sign (other t) y (at d.point) (at c.point) ≡ true → Turned at e t y f row' near' far' bends' n true
      apex_moves row' bends' near' far' b popped put same_near one_fewer vertex side point none turns = by h.nears h.apex h.fars h.parts h.near_count h.far_count h.top h.is
        where
          by : (ns : List (Corner P)) (a : Corner P) (zs : List (Corner P)) → row ≡ ns ++ a ∷ zs → near ≡ length ns → far ≡ length zs → at a.point ≡ aim quadratics e (map (bend_of at) bends)
              → meant at ns bends zs ≡ f → Turned at e t y f row' near' far' bends' n true
          by (x ∷ ns) a zs p q m top is = absurd (omega arith)
          by [] a [] p q m top is = absurd (omega (arith, ap length p, ap length first))
          by [] a (z ∷ zs) p q m top is =
              let same : c ≡ a = cc in
              let here : z ≡ d = cc in
              let left : row' ≡ z ∷ zs = cc in
              let test = (λ i. bears quadratics sign (other t) y (at (here i).point) (sym (ap (λ v. at v.point) same ∙ top) i)) ∙ turns in
              let bend : bend_of at b ≡ record { side = other t; vertex = vertex_meant at z } =
              λ i. record { side = side i; vertex = record { number = ((vertex ∙ ap (λ v. v.vertex) (sym here)) i).0; point = at ((point ∙ ap (λ v. v.point) (sym here)) i) } } in
              record {
                now = meant at [] bends' zs;
                holds = record {
                  nears = [];
                  apex = z;
                  fars = zs;
                  parts = left;
                  near_count = omega arith;
                  far_count = omega arith;
                  top = ap (λ v. at v.point) here ∙ ap at (sym point) ∙ ap (λ l. aim quadratics e (map (bend_of at) l)) (sym put);
                  is = refl;
                  few = omega (arith, h.few, ap length put);
                };
                same = ap (settled at e t y) (sym is)
                    ∙ moves_apex quadratics sign e t y (vertex_meant at z) (map (vertex_meant at) zs) (map (bend_of at) bends) test
                    ∙ ap (λ v. settled at e t y (record { near = []; final = v ∷ map (bend_of at) bends; far = map (vertex_meant at) zs })) (sym bend)
                    ∙ ap (λ l. settled at e t y (meant at [] l zs)) (sym put);
                done = λ no. absurd (differ no);
              }

  -- many turns
  pub turned_on : (row bends row' bends' : List (Corner P)) (near far near' far' n : ℕ) (more : Bool) (f : Funnel Number) (a : Turned at e t y f row near far bends n true)
      → Turned at e t y a.now row' near' far' bends' n more → Turned at e t y f row' near' far' bends' n more
  turned_on row bends row' bends' near far near' far' n more f a b = record { now = b.now; holds = b.holds; same = a.same ∙ b.same; done = b.done }

  pub left_over : (row bends : List (Corner P)) (near far n : ℕ) (f : Funnel Number) → Turned at e t y f row near far bends n false → Holds at e row near far bends n (settled at e t y f)
  left_over row bends near far n f a = subst (λ g. Holds at e row near far bends n g) (sym (a.same ∙ a.done refl)) a.holds
