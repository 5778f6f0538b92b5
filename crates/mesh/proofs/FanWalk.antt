-- The walk round one vertex: it never enters a marked corner, so it ends, and then it has marked the whole fan and nothing else.
use Rattle.std.proofs.Common.{◌≡◌, ◌<◌, Bool, true, ◌⊎◌, List, length, set, Some, None, Option, IfSome, sym, refl, ap, ◌∙◌, subst, inl, inr}
use Rattle.base.specs.declared.ids.HalfEdgeId.{HalfEdgeId}
use Rattle.base.specs.Ids.{next, previous}
use Rattle.mesh.specs.Surface.{Surface, Has, on, Later, Covers}
use Rattle.mesh.specs.Sound.{Paired, AtEach}
use Rattle.mesh.specs.Stages.{Starts, InFan, AtMost, Marked, Fresh, Fanned}
use Rattle.mesh.proofs.FanSteps.{next_previous, previous_same, some_same, some_none, later_none, later_split, back, on_within, fan_on}
use Rattle.mesh.proofs.MarkedCorners.{mark_this, mark_old, mark_which}

-- the walk from s has come to h: before it the marks were m₀, now they are m
pub record Walking (f : Surface) (s : HalfEdgeId) (m₀ m : List Bool) (h : HalfEdgeId) : Type 0 where
  pub has : Has f h
  pub reached : InFan f s h
  pub marked : Marked m h
  pub kept : (x : HalfEdgeId) → Marked m₀ x → Marked m x
  pub done : (x : HalfEdgeId) → InFan f s x → Marked m x ⊎ Later f h x
  pub only : (x : HalfEdgeId) → Marked m x → Marked m₀ x ⊎ InFan f s x
  pub backs : (x d : HalfEdgeId) → Marked m x → f.twin x ≡ Some d → Marked m (next d)
  pub fresh : (d : HalfEdgeId) → on f h ≡ Some d → Marked m d → ⊥

-- r is the smallest corner from s to h that comes round, if one does
pub record Found (f : Surface) (s h : HalfEdgeId) (r : Option HalfEdgeId) : Type 0 where
  pub round : IfSome r (λ q. Later f s q × Covers f s q)
  pub least : (x : HalfEdgeId) → Later f s x → Covers f s x → AtMost r x ⊎ Later f h x

module _ (f : Surface) (pairs : AtEach f Paired) (s : HalfEdgeId) (m₀ : List Bool) where
  -- a marked corner that is entered from g has g marked
  entered : (m : List Bool) (g e : HalfEdgeId) → ((x d : HalfEdgeId) → Marked m x → f.twin x ≡ Some d → Marked m (next d)) → Has f g → on f g ≡ Some e → Marked m e → Marked m g
  entered m g e closed w o k = subst (Marked m) (next_previous g) (closed e (previous g) k (back f pairs g e w o))

  -- the first corner has just been marked; its mark counts as an old one until the walk has ended
  pub begin : Starts f s → Fresh f m₀ s → s.0 < length m₀ → Walking f s (set m₀ s.0 true) (set m₀ s.0 true) s
  begin b u room = record {
    has = b.has;
    reached = inl refl;
    marked = mark_this m₀ s room;
    kept = λ x k. k;
    done = λ x i. elim i [ inl same ↦ inl (subst (Marked (set m₀ s.0 true)) (sym same) (mark_this m₀ s room)) | inr l ↦ inr l ];
    only = λ x k. inl k;
    backs = λ x d k t.
        elim (mark_which m₀ s room x k) [
          | inl same ↦ absurd (some_none (subst (λ y. f.twin y ≡ Some d) same t) b.rim)
          | inr old ↦ mark_old m₀ s room (next d) (u.backs x d old t)
        ];
    fresh = λ d o k.
        elim (mark_which m₀ s room d k) [
          | inl same ↦ some_none (subst (λ y. f.twin y ≡ Some (previous s)) same (back f pairs s d b.has o)) b.rim
          | inr old ↦ u.unmarked (entered m₀ s d u.backs b.has o old)
        ];
  }

  pub begin_found : Found f s s None
  begin_found = record { round = tt; least = λ x l c. inr l }

  pub whole : (m : List Bool) (r : Option HalfEdgeId) → s.0 < length m₀ → Fanned f s (set m₀ s.0 true) m r → Fanned f s m₀ m r
  whole m r room a = record {
    kept = λ x k. a.kept x (mark_old m₀ s room x k);
    all = a.all;
    only = λ x k.
        elim (a.only x k) [
          | inl old ↦ elim (mark_which m₀ s room x old) [ inl same ↦ inr (inl same) | inr older ↦ inl older ]
          | inr in_fan ↦ inr in_fan
        ];
    round = a.round;
    least = a.least;
  }

  module _ (m : List Bool) (h : HalfEdgeId) (w : Walking f s m₀ m h) where
    pub step : (d : HalfEdgeId) → on f h ≡ Some d → d.0 < length m → Walking f s m₀ (set m d.0 true) d
    step d o room =
        let next_one : Later f s d = fan_on f pairs w.reached o in
        record {
          has = on_within f pairs h d w.has o;
          reached = inr next_one;
          marked = mark_this m d room;
          kept = λ x k. mark_old m d room x (w.kept x k);
          done = λ x i.
              elim (w.done x i) [
                | inl k ↦ inl (mark_old m d room x k)
                | inr l ↦ elim (later_split o l) [ inl same ↦ inl (subst (Marked (set m d.0 true)) (sym same) (mark_this m d room)) | inr after ↦ inr after ]
              ];
          only = λ x k.
              elim (mark_which m d room x k) [
                | inl same ↦ inr (inr (subst (Later f s) (sym same) next_one))
                | inr old ↦ w.only x old
              ];
          backs = λ x g k t.
              elim (mark_which m d room x k) [
                | inl same ↦ mark_old m d room (next g)
                    (subst (Marked m) (sym (ap next (some_same (subst (λ y. f.twin y ≡ Some g) same t) (back f pairs h d w.has o)) ∙ next_previous h)) w.marked)
                | inr old ↦ mark_old m d room (next g) (w.backs x g old t)
              ];
          fresh = λ e p k.
              elim (mark_which m d room e k) [
                | inl same ↦ w.fresh d o
                    (subst (Marked m)
                    (previous_same h d
                    (some_same (back f pairs h d w.has o) (subst (λ y. f.twin y ≡ Some (previous d)) same (back f pairs d e (on_within f pairs h d w.has o) p))))
                    w.marked)
                | inr old ↦ w.fresh d o (entered m d e w.backs (on_within f pairs h d w.has o) p old)
              ];
        }

    pub step_found : (d : HalfEdgeId) (r q : Option HalfEdgeId) → Found f s h r → on f h ≡ Some d
        → (q ≡ r) ⊎ ((q ≡ Some d) × Covers f s d) → ((x : HalfEdgeId) → AtMost r x → AtMost q x) → (Covers f s d → AtMost q d)
        → Found f s d q
    step_found d r q found o which less here = record {
      round =
          elim which [
            | inl same ↦ subst (λ c. IfSome c (λ x. Later f s x × Covers f s x)) (sym same) found.round
            | inr new ↦ subst (λ c. IfSome c (λ x. Later f s x × Covers f s x)) (sym new.0) (fan_on f pairs w.reached o, new.1)
          ];
      least = λ x l c.
          elim (found.least x l c) [
            | inl before ↦ inl (less x before)
            | inr after ↦ elim (later_split o after) [
              | inl same ↦ inl (subst (AtMost q) (sym same) (here (subst (Covers f s) same c)))
              | inr on_after ↦ inr on_after
            ]
          ];
    }

    pub ended : (r : Option HalfEdgeId) → Found f s h r → on f h ≡ None → Fanned f s m₀ m r
    ended r found z = record {
      kept = w.kept;
      all = λ x i. elim (w.done x i) [ inl k ↦ k | inr l ↦ absurd (later_none l z) ];
      only = w.only;
      round = found.round;
      least = λ x l c. elim (found.least x l c) [ inl k ↦ k | inr after ↦ absurd (later_none after z) ];
    }
