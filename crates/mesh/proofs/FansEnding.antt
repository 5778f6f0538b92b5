-- On a sound surface going on in a fan reaches boundary: the walk from the first corner never enters a corner twice.
use Rattle.std.proofs.Common.{◌≡◌, ℕ, zero, suc, ◌+◌, ◌*◌, ◌<◌, ◌≤◌, Bool, true, false, ◌⊎◌, List, length, set, replicate, Some, None, Option, sym, refl, subst, inl, inr, arith, length-set}
use lib.ListN.{length-replicate}
use Rattle.base.specs.declared.ids.HalfEdgeId.{HalfEdgeId}
use Rattle.mesh.specs.Surface.{Surface, on, Later, one, more, Ends, edge_ahead, ahead}
use Rattle.mesh.specs.Sound.{Paired, AtEach, FansEnd}
use Rattle.mesh.specs.Stages.{Starts}
use Rattle.mesh.proofs.FanSteps.{some_same, some_none, on_within, opens_fan}
use Rattle.mesh.proofs.MarkedCorners.{unmarked, fewer, none_marked}
use Rattle.mesh.proofs.FanWalk.{Walking, begin, step}

-- the corner that follows, or none
known : (o : Option HalfEdgeId) → (o ≡ None) ⊎ ((d : HalfEdgeId) × (o ≡ Some d))
known None = inl refl
known (Some d) = inr (d, refl)

module _ (f : Surface) (pairs : AtEach f Paired) where
  -- where a corner's fan ends, so does that of the corner after it
  next_ends : {g h : HalfEdgeId} → Ends f g → on f g ≡ Some h → Ends f h
  next_ends (edge_ahead z) e = absurd (some_none e z)
  next_ends (ahead p more_to_go) e = subst (Ends f) (some_same p e) more_to_go

  later_ends : {s x : HalfEdgeId} → Ends f s → Later f s x → Ends f x
  later_ends a (one e) = next_ends a e
  later_ends a (more l e) = next_ends (later_ends a l) e

  -- by the number of corners that are not yet marked
  walk_ends : (left : ℕ) (s h : HalfEdgeId) (m₀ m : List Bool) → unmarked m < left → 3 * f.F ≤ length m → Walking f s m₀ m h → Ends f h
  walk_ends zero s h m₀ m few room w = absurd (omega arith)
  walk_ends (suc left) s h m₀ m few room w =
      elim (known (on f h)) [
        | inl z ↦ edge_ahead z
        | inr go ↦
            let d = go.0 in
            let there : d.0 < length m = omega (arith, on_within f pairs h d w.has go.1) in
            let fewer_left : unmarked (set m d.0 true) < unmarked m = fewer m d.0 there (w.fresh d go.1) in
            ahead go.1
            (walk_ends left s d m₀ (set m d.0 true) (omega arith) (simp length-set room)
            (step f pairs s m₀ m h w d go.1 there))
      ]

  first_ends : (s : HalfEdgeId) → Starts f s → Ends f s
  first_ends s b =
      let m = replicate (3 * f.F) false in
      let room : s.0 < length m = simp length-replicate b.has in
      walk_ends (1 + unmarked (set m s.0 true)) s s (set m s.0 true) (set m s.0 true) (omega arith) (simp (length-set, length-replicate) (omega arith))
      (begin f pairs s m b (record { unmarked = none_marked (3 * f.F) s; backs = λ x d k t. absurd (none_marked (3 * f.F) x k) }) room)

pub fans_end : FansEnd
fans_end f sound h w =
    let o = opens_fan f sound.twins w (sound.fans h w) in
    let first = first_ends f sound.twins o.0 o.1 in
    elim o.2 [ inl same ↦ subst (Ends f) (sym same) first | inr l ↦ later_ends f sound.twins first l ]
