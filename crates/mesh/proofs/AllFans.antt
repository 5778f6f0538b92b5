-- Walking from every first corner marks exactly the corners of open fans; and the smallest corner that comes round is the first at which the rule on full turns fails.
use Rattle.std.proofs.Common.{◌≡◌, ◌+◌, ◌*◌, ◌<◌, ◌≤◌, Bool, ◌⊎◌, List, Some, None, Option, IfSome, sym, ap, subst, inl, inr, arith}
use Rattle.std.proofs.lemmas.Bool.Decides.{leb_tells}
use Rattle.base.specs.declared.ids.HalfEdgeId.{HalfEdgeId}
use Rattle.base.specs.Ids.{half_edge, next}
use Rattle.mesh.specs.Surface.{Surface, Later, Covers}
use Rattle.mesh.specs.Sound.{Paired, FallsShort, AtEach}
use Rattle.mesh.specs.Stages.{Starts, InFan, AtMost, Marked, Fresh, Fanned, WalkedTo, Walked}
use Rattle.mesh.specs.Verdict.{FirstBad}
use Rattle.mesh.proofs.FanSteps.{some_none, later_within, later_back, later_inside, fan_opens, opens_fan}

split : (s h : HalfEdgeId) → s.0 < h.0 + 1 → (s.0 < h.0) ⊎ (s ≡ h)
split s h b =
    elim (leb_tells (s.0 + 1) h.0) [ inl k ↦ inl (omega (arith, k.1)) | inr k ↦ inr (ap half_edge (omega (arith, k.1))) ]

abbrev Round : Surface → HalfEdgeId → Type 0
Round f x = (s : HalfEdgeId) × Starts f s × Later f s x × Covers f s x

module _ (f : Surface) (pairs : AtEach f Paired) where
  pub none_yet : (m : List Bool) → ((x : HalfEdgeId) → Marked m x → ⊥) → WalkedTo f 0 m None
  none_yet m blank = record {
    all = λ s x b. absurd (omega arith);
    only = λ x k. absurd (blank x k);
    round = tt;
    least = λ s x b. absurd (omega arith);
  }

  module _ (h : HalfEdgeId) (m : List Bool) (r : Option HalfEdgeId) (w : WalkedTo f h.0 m r) where
    pub fresh : Starts f h → Fresh f m h
    fresh b = record {
      unmarked = λ k.
          let o = w.only h k in
          elim o.3 [
            | inl same ↦ let e = ap (λ y. y.0) same in omega (arith, e, o.1)
            | inr l ↦ later_inside f pairs o.2.has l b.rim
          ];
      backs = λ x d k t.
          let o = w.only x k in
          elim o.3 [
            | inl same ↦ absurd (some_none (subst (λ y. f.twin y ≡ Some d) same t) o.2.rim)
            | inr l ↦ w.all o.0 (next d) o.1 o.2 (later_back f pairs o.2.has l t)
          ];
    }

    pub passed : (f.twin h ≡ None → ⊥) → WalkedTo f (h.0 + 1) m r
    passed led = record {
      all = λ s x b st i.
          elim (split s h b) [ inl k ↦ w.all s x k st i | inr same ↦ absurd (led (subst (λ y. f.twin y ≡ None) same st.rim)) ];
      only = λ x k. let o = w.only x k in (o.0, omega (arith, o.1), o.2, o.3);
      round = w.round;
      least = λ s x b st l c.
          elim (split s h b) [ inl k ↦ w.least s x k st l c | inr same ↦ absurd (led (subst (λ y. f.twin y ≡ None) same st.rim)) ];
    }

    pub walked : Starts f h → (m' : List Bool) (q r' : Option HalfEdgeId) → Fanned f h m m' q → (r' ≡ r) ⊎ (r' ≡ q) → ((x : HalfEdgeId) → AtMost r x → AtMost r' x) → ((x : HalfEdgeId) → AtMost q x → AtMost r' x) → WalkedTo f (h.0 + 1) m' r'
    walked first m' q r' a which low low' = record {
      all = λ s x b st i.
          elim (split s h b) [ inl k ↦ a.kept x (w.all s x k st i) | inr same ↦ a.all x (subst (λ y. InFan f y x) same i) ];
      only = λ x k.
          elim (a.only x k) [
            | inl old ↦ let o = w.only x old in (o.0, omega (arith, o.1), o.2, o.3)
            | inr new ↦ (h, omega arith, first, new)
          ];
      round =
          elim which [
            | inl same ↦ subst (λ o. IfSome o (Round f)) (sym same) w.round
            | inr same ↦ subst (λ o. IfSome o (Round f)) (sym same) (rounds q a.round)
          ];
      least = λ s x b st l c.
          elim (split s h b) [
            | inl k ↦ low x (w.least s x k st l c)
            | inr same ↦ low' x (a.least x (subst (λ y. Later f y x) same l) (subst (λ y. Covers f y x) same c))
          ];
    }
      where
        rounds : (o : Option HalfEdgeId) → IfSome o (λ x. Later f h x × Covers f h x) → IfSome o (Round f)
        rounds None t = tt
        rounds (Some x) t = (h, first, t.0, t.1)

  pub all_walked : (m : List Bool) (r : Option HalfEdgeId) → WalkedTo f (3 * f.F) m r → Walked f m
  all_walked m r w = record {
    opened = λ x b o.
        let s = opens_fan f pairs b o in
        w.all s.0 x s.1.has s.1 s.2;
    only = λ x b k. let o = w.only x k in fan_opens f pairs o.2 o.3;
  }

  pub first_round : (m : List Bool) (r : Option HalfEdgeId) → WalkedTo f (3 * f.F) m r → FirstBad (λ x. x.0) (FallsShort f) (3 * f.F) r
  first_round m None w = λ x b s has rim l c. w.least s x has (record { has = has; rim = rim }) l c
  first_round m (Some q) w =
      let o = w.round in (
        later_within f pairs o.1.has o.2,
        (λ short. short o.0 o.1.has o.1.rim o.2 o.3),
        (λ x small s has rim l c. let le : q.0 ≤ x.0 = w.least s x has (record { has = has; rim = rim }) l c in omega arith),
      )
