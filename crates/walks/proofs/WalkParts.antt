-- Walks are joined and parted; a spur put in or taken out leaves a walk between the same triangles; so the reduction of a walk is a walk between them,
-- and homotopic walks from one triangle end in one triangle. Only a spur put in, and the way back, rest on twins being mutual.
use Rattle.std.proofs.Common.{◌≡◌, ◌<◌, List, [], ◌∷◌, ◌++◌, map, Some, sym, refl, ap, ◌∙◌, subst, arith}
use mathlib.Core.List.{reverse_aux}
use Rattle.base.specs.declared.ids.TriangleId.{TriangleId}
use Rattle.base.specs.Ids.{triangle_of}
use Rattle.geometry.specs.Plane.{Point}
use Rattle.words.specs.declared.sorts.Crossing.{Crossing}
use Rattle.words.specs.Sorts.{recrossed, same_crossing}
use Rattle.words.specs.Words.{Homotopic, added, adding, reduction}
use Rattle.words.proofs.LastLetters.{cancels, appends, way}
use Rattle.words.proofs.EqualReductions.{reduced_reduction, equal_reductions}
use Rattle.words.proofs.LawfulSorts.{crossing_lawful}
use Rattle.mesh.specs.Surface.{Surface, Has}
use Rattle.mesh.specs.Sound.{Paired, AtEach}
use Rattle.walks.specs.Walks.{Walk, arrival, way_back, Inside, Joins}
use Rattle.walks.specs.Laws.{WalkLaws}

module _ (f : Surface) where
  pub walk_arrives : (t u : TriangleId) (w : List Crossing) → Walk f t w u → arrival t w ≡ u
  walk_arrives t u [] h = h
  walk_arrives t u (c ∷ w) h = walk_arrives (triangle_of c.entered) u w h.2

  pub walk_joined : (t m u : TriangleId) (v w : List Crossing) → Walk f t v m → Walk f m w u → Walk f t (v ++ w) u
  walk_joined t m u [] w h k = subst (λ x. Walk f x w u) (sym h) k
  walk_joined t m u (c ∷ v) w h k = (h.0, h.1, walk_joined (triangle_of c.entered) m u v w h.2 k)

  pub walk_parted : (t u : TriangleId) (v w : List Crossing) → Walk f t (v ++ w) u → Walk f t v (arrival t v) × Walk f (arrival t v) w u
  walk_parted t u [] w h = (refl, h)
  walk_parted t u (c ∷ v) w h = let ih = walk_parted (triangle_of c.entered) u v w h.2 in ((h.0, h.1, ih.0), ih.1)

  pub walk_spur_out : (t u : TriangleId) (v w : List Crossing) (c : Crossing) → Walk f t (v ++ c ∷ recrossed c ∷ w) u → Walk f t (v ++ w) u
  walk_spur_out t u v w c h =
      let parts = walk_parted t u v (c ∷ recrossed c ∷ w) h in
      let there : Walk f (arrival t v) (c ∷ recrossed c ∷ w) u = parts.1 in
      walk_joined t (arrival t v) u v w parts.0 (subst (λ x. Walk f x w u) there.0 there.2.2)

  pub walk_one_more : (t m u : TriangleId) (w : List Crossing) (c : Crossing) → Walk f t w m → Walk f m (c ∷ []) u → Walk f t (added recrossed same_crossing w c) u
  walk_one_more t m u w c h k = elim (way recrossed same_crossing crossing_lawful w c) [
    | cancels v e a ↦
        let parts = walk_parted t m v (recrossed c ∷ []) (subst (λ x. Walk f t x m) e h) in
        let there : Walk f (arrival t v) (recrossed c ∷ []) m = parts.1 in
        subst (λ x. Walk f t x u) (sym a) (subst (Walk f t v) (sym there.0 ∙ k.2) parts.0)
    | appends no_end a ↦ subst (λ x. Walk f t x u) (sym a) (walk_joined t m u w (c ∷ []) h k)
  ]

  walk_adding : (t m u : TriangleId) (v w : List Crossing) → Walk f t v m → Walk f m w u → Walk f t (adding recrossed same_crossing v w) u
  walk_adding t m u v [] h k = subst (Walk f t v) k h
  walk_adding t m u v (c ∷ w) h k = walk_adding t (triangle_of c.entered) u (added recrossed same_crossing v c) w (walk_one_more t m (triangle_of c.entered) v c h (k.0, k.1, refl)) k.2

  pub walk_reduced : (t u : TriangleId) (w : List Crossing) → Walk f t w u → Walk f t (reduction recrossed same_crossing w) u
  walk_reduced t u w h = walk_adding t t u [] w refl h

  pub walk_joins : (t u : TriangleId) (s e : Point) (w : List Crossing) → t.0 < f.F → Inside f t s → Walk f t w u → Inside f u e → Joins f t s (reduction recrossed same_crossing w) u e
  walk_joins t u s e w h start k finish = record { within = h; start = start; walk = walk_reduced t u w k; finish = finish; reduced = reduced_reduction recrossed same_crossing crossing_lawful w }

  pub walk_homotopic : (t u u' : TriangleId) (v w : List Crossing) → Homotopic recrossed v w → Walk f t v u → Walk f t w u' → u ≡ u'
  walk_homotopic t u u' v w e h k =
      sym (walk_arrives t u (reduction recrossed same_crossing v) (walk_reduced t u v h))
      ∙ ap (arrival t) (equal_reductions recrossed same_crossing crossing_lawful e)
      ∙ walk_arrives t u' (reduction recrossed same_crossing w) (walk_reduced t u' w k)

  module _ (pairs : AtEach f Paired) where
    pub left_within : (t : TriangleId) (c : Crossing) → t.0 < f.F → triangle_of c.left ≡ t → Has f c.left
    left_within t c h e = let q = ap (λ x. x.0) e in omega arith

    twin_back : (t : TriangleId) (c : Crossing) → t.0 < f.F → triangle_of c.left ≡ t → f.twin c.left ≡ Some c.entered → f.twin c.entered ≡ Some c.left
    twin_back t c h e k = (pairs c.left (left_within t c h e) c.entered k).back

    pub entered_below : (t : TriangleId) (c : Crossing) → t.0 < f.F → triangle_of c.left ≡ t → f.twin c.left ≡ Some c.entered → (triangle_of c.entered).0 < f.F
    entered_below t c h e k = let w : Has f c.entered = (pairs c.left (left_within t c h e) c.entered k).within in omega arith

    pub walk_within : (t u : TriangleId) (w : List Crossing) → t.0 < f.F → Walk f t w u → u.0 < f.F
    walk_within t u [] h k = subst (λ x. x.0 < f.F) k h
    walk_within t u (c ∷ w) h k = walk_within (triangle_of c.entered) u w (entered_below t c h k.0 k.1) k.2

    pub walk_spur_in : (t m u : TriangleId) (v w : List Crossing) (c : Crossing) → t.0 < f.F → Walk f t (v ++ w) u → Walk f (arrival t v) (c ∷ []) m → Walk f t (v ++ c ∷ recrossed c ∷ w) u
    walk_spur_in t m u v w c h k out =
        let parts = walk_parted t u v w k in
        let below = walk_within t (arrival t v) v h parts.0 in
        walk_joined t (arrival t v) u v (c ∷ recrossed c ∷ w) parts.0
        (out.0, out.1, (refl, twin_back (arrival t v) c below out.0 out.1, subst (λ x. Walk f x w u) (sym out.0) parts.1))

    back_onto : (t u z : TriangleId) (w onto : List Crossing) → t.0 < f.F → Walk f t w u → Walk f t onto z → Walk f u (reverse_aux (map recrossed w) onto) z
    back_onto t u z [] onto h k l = subst (λ x. Walk f x onto z) k l
    back_onto t u z (c ∷ w) onto h k l =
        back_onto (triangle_of c.entered) u z w (recrossed c ∷ onto) (entered_below t c h k.0 k.1) k.2
        (refl, twin_back t c h k.0 k.1, subst (λ x. Walk f x onto z) (sym k.0) l)

    pub walk_back : (t u : TriangleId) (w : List Crossing) → t.0 < f.F → Walk f t w u → Walk f u (way_back w) t
    walk_back t u w h k = back_onto t u t w [] h k refl

pub walk_laws : WalkLaws
walk_laws f sound = record {
  arrives = walk_arrives f;
  within = walk_within f sound.twins;
  joined = walk_joined f;
  parted = walk_parted f;
  spur_in = walk_spur_in f sound.twins;
  spur_out = walk_spur_out f;
  one_more = walk_one_more f;
  reduced = walk_reduced f;
  joins = walk_joins f;
  homotopic = walk_homotopic f;
  walked_back = walk_back f sound.twins;
}
