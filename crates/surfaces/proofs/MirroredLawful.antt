-- The mirror image of a lawful surface is lawful, and mirrored twice a surface is the same again.
-- Its fans are those of the surface below, read from their other end.
use Rattle.std.proofs.Common.{◌≡◌, ℕ, ◌*◌, ◌<◌, ℤ, neg_ℤ, Some, None, Option, sym, refl, ap, ◌∙◌, subst, ap₂, arith}
use Rattle.std.proofs.lemmas.Int.{ints}
use Rattle.base.specs.declared.ids.TriangleId.{TriangleId}
use Rattle.base.specs.declared.ids.HalfEdgeId.{HalfEdgeId}
use Rattle.base.specs.Ids.{half_edge, side, next, previous, mirror_side, mirror_corner}
use Rattle.algebra.specs.Number.{Number, number, minus}
use Rattle.geometry.specs.Plane.{point, turn, mirror}
use Rattle.mesh.specs.Surface.{Surface, Has, spot, on, Later, one, more, Opens, edge, across, Ends, edge_ahead, ahead, NotRight}
use Rattle.mesh.proofs.FanSteps.{later_within}
use Rattle.mesh.proofs.FansEnding.{fans_end}
use Rattle.mesh.specs.Sound.{Sound, TurnsLeft, Paired, FallsShort}
use Rattle.surfaces.specs.Lawful.{Lawful, Alike}
use Rattle.surfaces.specs.Layers.{mirrored, renamed}
use Rattle.surfaces.proofs.Codes.{side_twice, corner_twice, corner_from_side, side_from_corner, corner_of_next, corner_of_previous, side_of_previous, side_below, corner_below, side_past, corner_past}
use Rattle.surfaces.proofs.Turns.{turn_mirrored}
use Rattle.surfaces.proofs.FanRays.{later_cons, covers_not_before}

unrenamed : (o : Option HalfEdgeId) (d : HalfEdgeId) → renamed o ≡ Some d → o ≡ Some (mirror_side d)
unrenamed None d e = absurd (let z : ◌≡◌ {A = ℕ} 0 1 = cc in omega arith)
unrenamed (Some x) d e = ap Some (sym (side_twice x) ∙ ap mirror_side (some_is e))
  where
    some_is : {x y : HalfEdgeId} → Some x ≡ Some y → x ≡ y
    some_is e = cc

module _ (f : Surface) (sound : Sound f) where
  abbrev m : Surface
  m = mirrored f

  turns_left : (t : TriangleId) → t.0 < m.F → TurnsLeft m t
  turns_left t l =
      let c : mirror_corner (side t 0) ≡ side t 0 = ap half_edge (omega arith) in
      let d : mirror_corner (side t 1) ≡ side t 2 = ap half_edge (omega arith) in
      let e : mirror_corner (side t 2) ≡ side t 1 = ap half_edge (omega arith) in
      turn_mirrored (spot f (mirror_corner (side t 0))) (spot f (mirror_corner (side t 1))) (spot f (mirror_corner (side t 2)))
      ∙ ap₂ (λ x y. turn (spot f x) (spot f y) (spot f (mirror_corner (side t 1)))) c e
      ∙ ap (λ x. turn (spot f (side t 0)) (spot f (side t 1)) (spot f x)) d
      ∙ sound.turns t l

  -- a twin here is a twin there, and back
  shown : (h d : HalfEdgeId) → f.twin (mirror_side h) ≡ Some (mirror_side d) → m.twin h ≡ Some d
  shown h d t = ap renamed t ∙ ap Some (side_twice d)

  pairs : (h : HalfEdgeId) → Has m h → Paired m h
  pairs h l d t =
      let w = sound.twins (mirror_side h) (side_below f.F h l) (mirror_side d) (unrenamed (f.twin (mirror_side h)) d t) in
      record {
        within = subst (λ x. x.0 < 3 * f.F) (side_twice d) (side_below f.F (mirror_side d) w.within);
        back = shown d h w.back;
        from = ap f.corner (corner_from_side h) ∙ w.to ∙ ap f.corner (sym (corner_of_next d));
        to = ap f.corner (corner_of_next h) ∙ w.from ∙ ap f.corner (sym (corner_from_side d));
      }

  -- going back here is going on there
  opened : {x : HalfEdgeId} → Ends f x → (h : HalfEdgeId) → x ≡ mirror_corner h → Opens m h
  opened (edge_ahead t) h e = edge (ap renamed (ap f.twin (side_from_corner h ∙ ap previous (sym e)) ∙ t))
  opened (ahead {d = d} t r) h e =
      across (shown h (mirror_side d) (ap f.twin (side_from_corner h ∙ ap previous (sym e)) ∙ t ∙ ap Some (sym (side_twice d))))
      (opened r (next (mirror_side d)) (sym (corner_of_next (mirror_side d) ∙ side_twice d)))

  on_back : (x y : HalfEdgeId) → Has m x → on m x ≡ Some y → on f (mirror_corner y) ≡ Some (mirror_corner x)
  on_back x y l o =
      let t = unrenamed (f.twin (mirror_side (previous x))) y o in
      let u : f.twin (mirror_corner x) ≡ Some (mirror_side y) = ap f.twin (sym (side_of_previous x)) ∙ t in
      ap f.twin (sym (side_from_corner y)) ∙ (sound.twins (mirror_corner x) (corner_below f.F x l) (mirror_side y) u).back

  has_later : {s h : HalfEdgeId} → Has m s → Later m s h → Has m h
  has_later l k = later_within m pairs l k

  earlier : {s h : HalfEdgeId} → Has m s → Later m s h → Later f (mirror_corner h) (mirror_corner s)
  earlier {s} {h} l (one o) = one (on_back s h l o)
  earlier {s} {h} l (more {g = x} k o) = later_cons (on_back x h (has_later l k) o) (earlier l k)

  short : (h : HalfEdgeId) → FallsShort m h
  short h s l _ k v =
      let H = mirror_corner h in
      let S = mirror_corner s in
      let j = earlier l k in
      let i : Has f H = corner_below f.F h (has_later l k) in
      let here : spot f (mirror_corner (next s)) ≡ spot f (previous S) = ap (spot f) (corner_of_next s ∙ side_from_corner s) in
      let near : spot f (mirror_corner (next h)) ≡ spot f (previous H) = ap (spot f) (corner_of_next h ∙ side_from_corner h) in
      let far : spot f (mirror_corner (previous h)) ≡ spot f (next H) = ap (spot f) (corner_of_previous h) in
      let a : turn (mirror (spot f H)) (mirror (spot f (mirror_corner (next h)))) (mirror (spot f (mirror_corner (next s)))) ≡ turn (spot f H) (spot f (previous S)) (spot f (previous H)) = turn_mirrored (spot f H) (spot f (mirror_corner (next h))) (spot f (mirror_corner (next s))) ∙ ap₂ (turn (spot f H)) here near in
      let b : turn (mirror (spot f H)) (mirror (spot f (mirror_corner (next s)))) (mirror (spot f (mirror_corner (previous h)))) ≡ turn (spot f H) (spot f (next H)) (spot f (previous S)) = turn_mirrored (spot f H) (spot f (mirror_corner (next s))) (spot f (mirror_corner (previous h))) ∙ ap₂ (turn (spot f H)) far here in
      covers_not_before f sound H S i j (subst NotRight b v.1, subst NotRight a v.0)

  pub mirrored_sound : Sound m
  mirrored_sound = record {
    corners = λ h l. sound.corners (mirror_corner h) (corner_below f.F h l);
    turns = turns_left;
    twins = pairs;
    fans = λ h l. opened (fans_end f sound (mirror_corner h) (corner_below f.F h l)) h refl;
    spans = λ h _. short h;
  }

pub mirrored_lawful : (f : Surface) → Lawful f → Lawful (mirrored f)
mirrored_lawful f w = record {
  sound = mirrored_sound f w.sound;
  ended = record {
    no_corner = λ h l. w.ended.no_corner (mirror_corner h) (corner_past f.F h l);
    no_point = λ v l. ap mirror (w.ended.no_point v l);
    no_twin = λ h l. ap renamed (w.ended.no_twin (mirror_side h) (side_past f.F h l));
  };
  few_triangles = w.few_triangles;
  few_vertices = w.few_vertices;
}

minus_twice : (a : Number) → minus (minus a) ≡ a
minus_twice a = λ i. number (part_twice a.p i) (part_twice a.q i)
  where
    part_twice : (z : ℤ) → neg_ℤ (neg_ℤ z) ≡ z
    part_twice z = omega (arith, ints)

renamed_twice : (o : Option HalfEdgeId) → renamed (renamed o) ≡ o
renamed_twice None = refl
renamed_twice (Some d) = ap Some (side_twice d)

pub mirrored_twice : (f : Surface) → Alike (mirrored (mirrored f)) f
mirrored_twice f = record {
  triangles = refl;
  vertices = refl;
  corner = λ h. ap f.corner (corner_twice h);
  point = λ v. ap (λ x. point x (f.point v).y) (minus_twice (f.point v).x);
  twin = λ h. renamed_twice (f.twin (mirror_side (mirror_side h))) ∙ ap f.twin (side_twice h);
}
