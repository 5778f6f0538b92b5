-- The way back of a reduced walk between terminals is one, and its taut string is the string read backwards (`back_law`).
use Rattle.std.proofs.Common.{◌≡◌, ◌<◌, List, [], ◌∷◌, ◌++◌, map, reverse, sym, refl, ap, ◌∙◌, subst}
use mathlib.Core.List.{map-append, reverse_aux, reverse_aux-eq, reverse-append, reverse-reverse}
use Rattle.std.proofs.lemmas.List.{append_assoc}
use Rattle.base.specs.declared.ids.TriangleId.{TriangleId}
use Rattle.base.specs.Ids.{triangle_of, next}
use Rattle.algebra.specs.Number.{quadratics}
use Rattle.words.specs.declared.sorts.Crossing.{Crossing}
use Rattle.words.specs.Sorts.{recrossed}
use Rattle.words.specs.Words.{Reduced}
use Rattle.taut.specs.TautString.{TautString}
use Rattle.taut.specs.Backwards.{back_portal, backward_bends}
use Rattle.taut.proofs.AtNumbers.{backwards_here}
use Rattle.mesh.specs.Surface.{Surface}
use Rattle.mesh.specs.Sound.{Sound}
use Rattle.walks.specs.Walks.{Walk, way_back, portal_of, portals}
use Rattle.walks.specs.Laws.{BackLaw}
use Rattle.walks.proofs.Crossings.{same_vertex_at}
use Rattle.walks.proofs.WalkParts.{left_within, entered_below, walk_within, walk_back}
use Rattle.walks.proofs.Sleeves.{sleeve_of}

map_onto : {X Y : Type 0} (g : X → Y) (v w : List X) → map g (reverse_aux v w) ≡ reverse_aux (map g v) (map g w)
map_onto g [] w = refl
map_onto g (x ∷ v) w = map_onto g v (x ∷ w)

crossed_twice : (w : List Crossing) → map recrossed (map recrossed w) ≡ w
crossed_twice [] = refl
crossed_twice (c ∷ w) = ap (λ l. c ∷ l) (crossed_twice w)

back_twice : (w : List Crossing) → way_back (way_back w) ≡ w
back_twice w = ap reverse (map_onto recrossed (map recrossed w) []) ∙ reverse-reverse (map recrossed (map recrossed w)) ∙ crossed_twice w

back_spur : (v w : List Crossing) (c : Crossing) → way_back (v ++ c ∷ recrossed c ∷ w) ≡ way_back w ++ c ∷ recrossed c ∷ way_back v
back_spur v w c =
    ap reverse (map-append recrossed v (c ∷ recrossed c ∷ w))
    ∙ reverse-append (map recrossed v) (recrossed c ∷ c ∷ map recrossed w)
    ∙ ap (λ l. l ++ way_back v) (reverse_aux-eq (map recrossed w) (c ∷ recrossed c ∷ []))
    ∙ append_assoc (way_back w) (c ∷ recrossed c ∷ []) (way_back v)

reduced_back : (w : List Crossing) → Reduced recrossed w → Reduced recrossed (way_back w)
reduced_back w r v v' c e = r (way_back v') (way_back v) c (sym (back_twice w) ∙ ap way_back e ∙ back_spur v v' c)

module _ (f : Surface) (sound : Sound f) where
  portal_back : (t : TriangleId) (c : Crossing) (u : TriangleId) → t.0 < f.F → Walk f t (c ∷ []) u → portal_of f (recrossed c) ≡ back_portal (portal_of f c)
  portal_back t c u h k =
      let pair = sound.twins c.left (left_within f sound.twins t c h k.0) c.entered k.1 in
      let left = same_vertex_at f (next c.entered) c.left (sym pair.from) in
      let right = same_vertex_at f c.entered (next c.left) (sym pair.to) in
      λ i. record { left = left i; right = right i }

  portals_onto : (t u : TriangleId) (w onto : List Crossing) → t.0 < f.F → Walk f t w u → portals f (reverse_aux (map recrossed w) onto) ≡ reverse_aux (map back_portal (portals f w)) (portals f onto)
  portals_onto t u [] onto h k = refl
  portals_onto t u (c ∷ w) onto h k =
      portals_onto (triangle_of c.entered) u w (recrossed c ∷ onto) (entered_below f sound.twins t c h k.0 k.1) k.2
      ∙ ap (λ p. reverse_aux (map back_portal (portals f w)) (p ∷ portals f onto)) (portal_back t c (triangle_of c.entered) h (k.0, k.1, refl))

pub back_law : BackLaw
back_law f sound t u s e w j = (
  record {
    within = walk_within f sound.twins t u w j.within j.walk;
    start = j.finish;
    walk = walk_back f sound.twins t u w j.within j.walk;
    finish = j.start;
    reduced = reduced_back w j.reduced;
  },
  λ bs taut. subst (λ ps. TautString quadratics e ps s (backward_bends bs)) (sym (portals_onto f sound t u w [] j.within j.walk))
      (backwards_here.string s e (portals f w) bs (sleeve_of f sound t u s e w j).0 taut),
)
