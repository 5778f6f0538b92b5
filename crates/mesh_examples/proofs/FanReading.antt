-- Reading a fan back from a corner: it comes to the one first corner that the corner belongs to, or it goes round for ever.
use Rattle.std.proofs.Common.{◌≡◌, Some, None, sym, subst, inl, inr}
use Rattle.base.specs.declared.ids.HalfEdgeId.{HalfEdgeId}
use Rattle.base.specs.Ids.{next}
use Rattle.mesh.specs.Surface.{Surface, Has, Twins, Opens, edge, across, Covers}
use Rattle.mesh.specs.Sound.{Paired, FallsShort, AtEach}
use Rattle.mesh.specs.Stages.{InFan}
use Rattle.mesh.proofs.FanSteps.{some_same, some_none, later_back, later_inside}

pub paired_none : (f : Surface) (h : HalfEdgeId) → f.twin h ≡ None → Paired f h
paired_none f h z d e = absurd (some_none e z)

pub paired_some : (f : Surface) (h d : HalfEdgeId) → f.twin h ≡ Some d → Twins f h d → Paired f h
paired_some f h d p t e q = subst (Twins f h) (some_same p q) t

-- corners that lead back to one another are in no open fan
pub never_opens : (f : Surface) (S : HalfEdgeId → Type 0) → ((x : HalfEdgeId) → S x → (d : HalfEdgeId) × (f.twin x ≡ Some d) × S (next d)) → (x : HalfEdgeId) → S x → Opens f x → ⊥
never_opens f S back x s (edge z) = some_none (back x s).1 z
never_opens f S back x s (across {d = d} e o) =
    let b = back x s in
    never_opens f S back (next d) (subst (λ y. S (next y)) (some_same b.1 e) b.2) o

pub data From (f : Surface) (s : HalfEdgeId) : HalfEdgeId → Type 0 where
  here : f.twin s ≡ None → From f s s
  via : {x d : HalfEdgeId} → f.twin x ≡ Some d → From f s (next d) → From f s x

module _ (f : Surface) (pairs : AtEach f Paired) where
  one_first : {s x : HalfEdgeId} → From f s x → (t : HalfEdgeId) → Has f t → f.twin t ≡ None → InFan f t x → t ≡ s
  one_first (here z) t has rim (inl same) = sym same
  one_first (here z) t has rim (inr l) = absurd (later_inside f pairs has l z)
  one_first (via {d = d} e b) t has rim (inl same) = absurd (some_none (subst (λ y. f.twin y ≡ Some d) same e) rim)
  one_first (via e b) t has rim (inr l) = one_first b t has rim (later_back f pairs has l e)

  pub falls_short : {s x : HalfEdgeId} → From f s x → (Covers f s x → ⊥) → FallsShort f x
  falls_short {x = x} b clear t has rim l c = clear (subst (λ y. Covers f y x) (one_first b t has rim (inr l)) c)

  pub first_falls_short : {x : HalfEdgeId} → f.twin x ≡ None → FallsShort f x
  first_falls_short z t has rim l c = later_inside f pairs has l z
