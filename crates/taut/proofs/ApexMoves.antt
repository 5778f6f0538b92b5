-- A new end for which the apex moves to a corner of the far chain: it and what is left of that chain see the new apex (`moves`).
use Rattle.std.proofs.Common.{◌≡◌, List, [], ◌∷◌, ◌++◌, sym, ap, ◌∙◌, subst, inl, inr}
use Rattle.algebra.specs.Arithmetic.{Arithmetic, Nn}
use Rattle.algebra.specs.Plane.{Vec, ◌⟶◌ as ◌⇢◌}
use Rattle.algebra.proofs.RingSolver.{CommRing}
use Rattle.algebra.proofs.OrderedRing.{OrderedRing, base, pos_eq, nn_eq, nn_nil, nn_split}
use Rattle.taut.specs.declared.Side.{Side}
use Rattle.taut.specs.Sleeve.{other, Vertex, Portal, end, veer}
use Rattle.taut.specs.TautString.{Bend, Crosses, Turns}
use Rattle.taut.specs.Funnel.{bends, next}
use Rattle.taut.proofs.Veer.{swap, self, to_head, turned_back}
use Rattle.taut.proofs.Chains.{last, Stem, over, Convex, next_is, crosses_new, Wing}
use Rattle.taut.proofs.Wedge.{Wedge, open', shut}
use Rattle.taut.proofs.ApexStays.{Two, stays°}
use Rattle.taut.proofs.ChainCut.{fb', Splits, split, Comes, comes, Short, shorten, convex_splits}

module _ (K : OrderedRing) (e : Vec K.numbers.carrier) where
  abbrev N : Arithmetic
  N = K.numbers

  abbrev R : CommRing
  R = base K

  open N use {carrier as A, Pos}
  open N.ops use {nil as 𝟘, neg as -◌}

  infix 75 -◌
  infix 73 ◌⟶◌
  abbrev ◌⟶◌ : Vec A → Vec A → Vec A
  v ⟶ w = ◌⇢◌ N v w

  -- a funnel with two chains at portal p, with the portals ps after it: cs is the near chain, from the end on side t, and ds the far one
  pub record Open (t : Side) (p : Portal A) (ps : List (Portal A)) (fb : List (Bend A)) (cs ds : List (Vertex A)) : Type 0 where
    pub rest : List (Portal A)
    pub front : List (Portal A)
    pub stem : Stem K e fb rest
    pub two : Two K e fb rest t p front cs ds
    pub all : ps ≡ front ++ rest

  module _ (fb : List (Bend A)) (rest : List (Portal A)) (t : Side) (p₀ p : Portal A) (ps : List (Portal A)) (cs ds : List (Vertex A)) (stem : Stem K e fb rest) (two : Two K e fb rest t p ps cs ds)
      (kept : end (other t) p ≡ end (other t) p₀) (fr : Pos (veer N t ((end t p₀).point ⟶ (end (other t) p).point) ((end t p₀).point ⟶ (end t p).point))) where
    abbrev y : Vec A
    y = (end t p₀).point

    abbrev r : Vec A
    r = (end (other t) p).point

    pub moves : (top : Vertex A) (after pre : List (Vertex A)) → Splits K e fb rest (other t) t y top after ds pre → Comes K e fb rest (other t) t y top after (last K r pre) → Convex K e fb rest (other t) top.point after → Open t p₀ (p ∷ (ps ++ rest)) (bends (other t) (top ∷ after) ++ fb) [] pre
    moves top after pre sp c cv =
        let s : Side = other t in
        let fb'' : List (Bend A) = fb' K e fb rest s t y top after in
        let sh : Short K e fb rest s t y top after r pre ps = shorten K e fb rest s t y top after pre sp stem cv c two.far.arm in
        let r'' : List (Portal A) = sh.rest' in
        let m = split K e fb rest s t y top after r'' p r sp two.far.passes in
        let cr : Crosses N y top.point p = comes K e fb rest s t y top after p (last K r pre) c m.1 m.2 in
        let wing : Wing K e fb'' r'' s p sh.ps₁ pre = record { arm = sh.far; passes = m.0; convex = convex_splits K e fb rest s t y top after r'' r sp two.far.convex } in
        let same : last K r pre ≡ last K (end s p₀).point pre = ap (λ k. last K k.point pre) kept in
        let nx : Vec A = next N e after fb in
        let yx : Nn N (veer N t (y ⟶ top.point) (last K r pre ⟶ top.point)) = nn_eq K (swap K t (last K r pre ⟶ top.point) (y ⟶ top.point)) c.1 in
        let gap : Wedge K t (y ⟶ top.point) (last K r pre ⟶ top.point) = elim (nn_split K yx) [
          | inl h ↦ open' h
          | inr h ↦ shut h (nx ⟶ top.point) (pos_eq K (turned_back K t (y ⟶ top.point) top.point nx) c.2) (pos_eq K (turned_back K t (last K r pre ⟶ top.point) top.point nx) c.0)
        ] in
        record {
          rest = r'';
          front = p ∷ sh.ps₁;
          stem = sh.stem;
          all = ap (λ l. p ∷ l) sh.same;
          two = record {
            near = record { arm = over cr sh.near; passes = crosses_new K e fb'' r'' t p₀ p kept fr y top.point cr (nn_eq K (sym (to_head K t y top.point y ∙ self K (other t) (y ⟶ top.point))) (nn_nil K)); convex = subst (Turns N s y top.point) (next_is K e fb rest s after) c.2 };
            far = stays° K e fb'' r'' t p₀ p kept fr sh.ps₁ pre wing (nn_eq K (sym (to_head K t (last K r pre) top.point y)) c.1);
            gap = subst (λ x. Wedge K t (y ⟶ top.point) (x ⟶ top.point)) same gap;
          };
        }
