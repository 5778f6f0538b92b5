-- A surface with barred portals is lawful if the surface below is: a bar cuts a fan into parts, and a part of a fan of less than a full turn is one.
use Rattle.std.proofs.Common.{◌≡◌, ℕ, Bool, true, false, cond, ◌||◌, List, Some, None, Option, refl, ap, ◌∙◌, subst, arith}
use Rattle.base.specs.declared.ids.HalfEdgeId.{HalfEdgeId}
use Rattle.base.specs.Ids.{next, previous}
use Rattle.mesh.specs.Surface.{Surface, Has, Later, one, more, Opens, edge, across}
use Rattle.mesh.specs.Sound.{Sound, Paired}
use Rattle.surfaces.specs.Lawful.{Lawful}
use Rattle.surfaces.specs.Layers.{barred, among, unless_barred}
use Rattle.surfaces.proofs.FanRays.{covers_not}

-- what is shown stands below, and neither side is barred
shown : (bars : List HalfEdgeId) (h d : HalfEdgeId) (o : Option HalfEdgeId) → unless_barred bars h o ≡ Some d → (o ≡ Some d) × ((among bars h || among bars d) ≡ false)
shown bars h d None e = absurd (let z : ◌≡◌ {A = ℕ} 0 1 = cc in omega arith)
shown bars h d (Some x) e = by_test (among bars h || among bars x) refl e
  where
    by_test : (t : Bool) → (among bars h || among bars x) ≡ t → cond t None (Some x) ≡ Some d → (Some x ≡ Some d) × ((among bars h || among bars d) ≡ false)
    by_test true k e = absurd (let z : ◌≡◌ {A = ℕ} 0 1 = cc in omega arith)
    by_test false k e = (e, subst (λ y. (among bars h || among bars y) ≡ false) (some_is e) k)
      where
        some_is : {x y : HalfEdgeId} → Some x ≡ Some y → x ≡ y
        some_is e = cc

or_turned : (a b : Bool) → (a || b) ≡ false → (b || a) ≡ false
or_turned true true e = e
or_turned true false e = e
or_turned false true e = e
or_turned false false e = e

module _ (bars : List HalfEdgeId) (f : Surface) (sound : Sound f) where
  abbrev g : Surface
  g = barred bars f

  pairs : (h : HalfEdgeId) → Has g h → Paired g h
  pairs h l d t =
      let e = shown bars h d (f.twin h) t in
      let w = sound.twins h l d e.0 in
      record {
        within = w.within;
        back = ap (unless_barred bars d) w.back ∙ ap (λ t. cond t None (Some h)) (or_turned (among bars h) (among bars d) e.1);
        from = w.from;
        to = w.to;
      }

  opened : {h : HalfEdgeId} → Opens f h → Opens g h
  opened {h} (edge t) = edge (ap (unless_barred bars h) t)
  opened {h} (across {d = d} t o) = by_test (among bars h || among bars d) refl (opened o)
    where
      by_test : (b : Bool) → (among bars h || among bars d) ≡ b → Opens g (next d) → Opens g h
      by_test true k r = edge (ap (unless_barred bars h) t ∙ ap (λ b. cond b None (Some d)) k)
      by_test false k r = across (ap (unless_barred bars h) t ∙ ap (λ b. cond b None (Some d)) k) r

  below : {s h : HalfEdgeId} → Later g s h → Later f s h
  below {s} {h} (one o) = one (shown bars (previous s) h (f.twin (previous s)) o).0
  below {s} {h} (more {g = x} l o) = more (below l) (shown bars (previous x) h (f.twin (previous x)) o).0

  pub barred_sound : Sound g
  barred_sound = record {
    corners = sound.corners;
    turns = sound.turns;
    twins = pairs;
    fans = λ h l. opened (sound.fans h l);
    spans = λ h _ s l _ k. covers_not f sound s h l (below k);
  }

pub barred_lawful : (bars : List HalfEdgeId) (f : Surface) → Lawful f → Lawful (barred bars f)
barred_lawful bars f w = record {
  sound = barred_sound bars f w.sound;
  ended = record {
    no_corner = w.ended.no_corner;
    no_point = w.ended.no_point;
    no_twin = λ h l. ap (unless_barred bars h) (w.ended.no_twin h l);
  };
  few_triangles = w.few_triangles;
  few_vertices = w.few_vertices;
}
