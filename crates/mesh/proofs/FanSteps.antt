-- Where sides are paired, going on and going back in a fan undo each other.
-- A corner is in the fan of a first corner exactly where its fan is open, and no corner of a fan but the first has boundary behind it.
use Rattle.std.proofs.Common.{◌≡◌, ℕ, ◌⊎◌, Some, None, Option, is_some, true, sym, refl, ap, ◌∙◌, subst, inl, inr, arith}
use Rattle.base.specs.declared.ids.HalfEdgeId.{HalfEdgeId}
use Rattle.base.specs.Ids.{half_edge, next, previous}
use Rattle.mesh.specs.Surface.{Surface, Has, on, Later, one, more, Opens, edge, across}
use Rattle.mesh.specs.Sound.{Paired, AtEach}
use Rattle.mesh.specs.Stages.{Starts, InFan}

pub next_previous : (h : HalfEdgeId) → next (previous h) ≡ h
next_previous h = ap half_edge (omega arith)

pub previous_next : (h : HalfEdgeId) → previous (next h) ≡ h
previous_next h = ap half_edge (omega arith)

pub next_within : (f : Surface) (h : HalfEdgeId) → Has f h → Has f (next h)
next_within f h w = omega arith

pub previous_within : (f : Surface) (h : HalfEdgeId) → Has f h → Has f (previous h)
previous_within f h w = omega arith

pub previous_same : (a b : HalfEdgeId) → previous a ≡ previous b → a ≡ b
previous_same a b e = sym (next_previous a) ∙ ap next e ∙ next_previous b

pub some_same : {X : Type 0} {o : Option X} {a b : X} → o ≡ Some a → o ≡ Some b → a ≡ b
some_same p q = cc

pub some_none : {X : Type 0} {o : Option X} {a : X} → o ≡ Some a → o ≡ None → ⊥
some_none p q = let z : ◌≡◌ {A = ℕ} 0 1 = cc in omega arith

pub some_not_none : {X : Type 0} {o : Option X} → is_some o ≡ true → o ≡ None → ⊥
some_not_none t z = let e : ◌≡◌ {A = ℕ} 0 1 = cc in omega arith

pub later_none : {f : Surface} {s x : HalfEdgeId} → Later f s x → on f s ≡ None → ⊥
later_none (one e) z = some_none e z
later_none (more l e) z = later_none l z

pub later_split : {f : Surface} {s x d : HalfEdgeId} → on f s ≡ Some d → Later f s x → (x ≡ d) ⊎ Later f d x
later_split p (one e) = inl (some_same e p)
later_split {f = f} {x = x} p (more l e) =
    elim (later_split p l) [ inl same ↦ inr (one (subst (λ y. on f y ≡ Some x) same e)) | inr after ↦ inr (more after e) ]

module _ (f : Surface) (pairs : AtEach f Paired) where
  -- the side that leaves the corner entered leads back to the side that was crossed
  pub back : (g h : HalfEdgeId) → Has f g → on f g ≡ Some h → f.twin h ≡ Some (previous g)
  back g h w e = (pairs (previous g) (previous_within f g w) h e).back

  pub on_within : (g h : HalfEdgeId) → Has f g → on f g ≡ Some h → Has f h
  on_within g h w e = (pairs (previous g) (previous_within f g w) h e).within

  pub later_within : {s x : HalfEdgeId} → Has f s → Later f s x → Has f x
  later_within w (one e) = on_within _ _ w e
  later_within w (more l e) = on_within _ _ (later_within w l) e

  -- the corner before a later corner is in the fan too
  pub later_back : {s x d : HalfEdgeId} → Has f s → Later f s x → f.twin x ≡ Some d → InFan f s (next d)
  later_back {s = s} w (one e) t = inl (ap next (some_same t (back _ _ w e)) ∙ next_previous s)
  later_back {s = s} w (more {g = g} l e) t =
      inr (subst (Later f s) (sym (ap next (some_same t (back _ _ (later_within w l) e)) ∙ next_previous g)) l)

  pub later_inside : {s x : HalfEdgeId} → Has f s → Later f s x → f.twin x ≡ None → ⊥
  later_inside w (one e) t = some_none (back _ _ w e) t
  later_inside w (more l e) t = some_none (back _ _ (later_within w l) e) t

  pub fan_within : {s x : HalfEdgeId} → Has f s → InFan f s x → Has f x
  fan_within w (inl same) = subst (Has f) (sym same) w
  fan_within w (inr l) = later_within w l

  later_opens : {s x : HalfEdgeId} → Starts f s → Later f s x → Opens f x
  later_opens {s = s} b (one e) = across (back _ _ b.has e) (subst (Opens f) (sym (next_previous s)) (edge b.rim))
  later_opens b (more {g = g} l e) =
      across (back _ _ (later_within b.has l) e) (subst (Opens f) (sym (next_previous g)) (later_opens b l))

  pub fan_opens : {s x : HalfEdgeId} → Starts f s → InFan f s x → Opens f x
  fan_opens b (inl same) = subst (Opens f) (sym same) (edge b.rim)
  fan_opens b (inr l) = later_opens b l

  pub fan_on : {s g h : HalfEdgeId} → InFan f s g → on f g ≡ Some h → Later f s h
  fan_on {h = h} (inl same) e = one (subst (λ y. on f y ≡ Some h) same e)
  fan_on (inr l) e = more l e

  -- an open fan is reached from its first corner
  pub opens_fan : {x : HalfEdgeId} → Has f x → Opens f x → (s : HalfEdgeId) × Starts f s × InFan f s x
  opens_fan {x = x} w (edge e) = (x, record { has = w; rim = e }, inl refl)
  opens_fan {x = x} w (across {d = d} e o) =
      let t = pairs x w d e in
      let ih = opens_fan (next_within f d t.within) o in
      let onward : on f (next d) ≡ Some x = ap f.twin (previous_next d) ∙ t.back in
      (ih.0, ih.1, inr (fan_on ih.2 onward))
