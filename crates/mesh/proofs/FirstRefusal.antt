-- Where the rules before hold everywhere and a scan answers the first place at which a rule fails, that refusal is the first that tells the truth;
-- and where all rules hold, the lists are accepted.
use Rattle.std.proofs.Common.{ℕ, ◌*◌, ◌<◌, ◌≤◌, length, Some, refl, inl, inr, arith, lit<}
use Rattle.std.proofs.lemmas.Bool.Decides.{leb_tells}
use Rattle.base.specs.declared.ids.TriangleId.{TriangleId}
use Rattle.base.specs.declared.ids.HalfEdgeId.{HalfEdgeId}
use Rattle.base.specs.declared.ids.VertexId.{VertexId}
use Rattle.base.specs.declared.refusals.Refusal.{Refusal}
use Rattle.base.specs.declared.refusals.Refusal.TheVariants.{MeshLimits, VertexRange, CornerRange, TriangleTurn, TwinMismatch, ClosedFan, FullTurn}
use Rattle.mesh.specs.Surface.{Opens}
use Rattle.mesh.specs.Sound.{CornerBelow, TurnsLeft, Paired, FallsShort, AtEach}
use Rattle.mesh.specs.Lists.{Lists, listed, Limits, InRange}
use Rattle.mesh.specs.Verdict.{Fails, limits, range, corner, turn, twin, fan, span, Before, Accepted, Refused, FirstBad}

-- what does not lie before i lies at i or after it
from : (i k : ℕ) → (k < i → ⊥) → i ≤ k
from i k never = elim (leb_tells i k) [ inl a ↦ a.1 | inr b ↦ absurd (never b.1) ]

module _ (l : Lists) where
  pub refuse_limits : (Limits l → ⊥) → Refused l MeshLimits
  refuse_limits broken = record { fails = limits broken; first = first }
    where
      first : (d : Refusal) → Fails l d → Before MeshLimits d
      first _ (limits n) = inr (refl, omega arith)
      first _ (range v h n) = inl (lit< tt)
      first _ (corner h w n) = inl (lit< tt)
      first _ (turn t w n) = inl (lit< tt)
      first _ (twin h w n) = inl (lit< tt)
      first _ (fan h w n) = inl (lit< tt)
      first _ (span h w n) = inl (lit< tt)

  module _ (a : Limits l) where
    pub refuse_range : (p : VertexId) → FirstBad (λ x. x.0) (InRange l) (length l.points) (Some p) → Refused l (VertexRange p)
    refuse_range p (b, bad, before) = record { fails = range p b bad; first = first }
      where
        first : (d : Refusal) → Fails l d → Before (VertexRange p) d
        first _ (limits n) = absurd (n a)
        first _ (range v h n) = inr (refl, from p.0 v.0 (λ k. n (before v k)))
        first _ (corner h w n) = inl (lit< tt)
        first _ (turn t w n) = inl (lit< tt)
        first _ (twin h w n) = inl (lit< tt)
        first _ (fan h w n) = inl (lit< tt)
        first _ (span h w n) = inl (lit< tt)

    module _ (ranges : (v : VertexId) → v.0 < length l.points → InRange l v) where
      pub refuse_corner : (p : HalfEdgeId) → FirstBad (λ x. x.0) (CornerBelow (listed l)) (3 * l.triangles) (Some p) → Refused l (CornerRange p)
      refuse_corner p (b, bad, before) = record { fails = corner p b bad; first = first }
        where
          first : (d : Refusal) → Fails l d → Before (CornerRange p) d
          first _ (limits n) = absurd (n a)
          first _ (range v h n) = absurd (n (ranges v h))
          first _ (corner h w n) = inr (refl, from p.0 h.0 (λ k. n (before h k)))
          first _ (turn t w n) = inl (lit< tt)
          first _ (twin h w n) = inl (lit< tt)
          first _ (fan h w n) = inl (lit< tt)
          first _ (span h w n) = inl (lit< tt)

      module _ (corners : AtEach (listed l) CornerBelow) where
        pub refuse_turn : (p : TriangleId) → FirstBad (λ x. x.0) (TurnsLeft (listed l)) l.triangles (Some p) → Refused l (TriangleTurn p)
        refuse_turn p (b, bad, before) = record { fails = turn p b bad; first = first }
          where
            first : (d : Refusal) → Fails l d → Before (TriangleTurn p) d
            first _ (limits n) = absurd (n a)
            first _ (range v h n) = absurd (n (ranges v h))
            first _ (corner h w n) = absurd (n (corners h w))
            first _ (turn t w n) = inr (refl, from p.0 t.0 (λ k. n (before t k)))
            first _ (twin h w n) = inl (lit< tt)
            first _ (fan h w n) = inl (lit< tt)
            first _ (span h w n) = inl (lit< tt)

        module _ (turns : (t : TriangleId) → t.0 < l.triangles → TurnsLeft (listed l) t) where
          pub refuse_twin : (p : HalfEdgeId) → FirstBad (λ x. x.0) (Paired (listed l)) (3 * l.triangles) (Some p) → Refused l (TwinMismatch p)
          refuse_twin p (b, bad, before) = record { fails = twin p b bad; first = first }
            where
              first : (d : Refusal) → Fails l d → Before (TwinMismatch p) d
              first _ (limits n) = absurd (n a)
              first _ (range v h n) = absurd (n (ranges v h))
              first _ (corner h w n) = absurd (n (corners h w))
              first _ (turn t w n) = absurd (n (turns t w))
              first _ (twin h w n) = inr (refl, from p.0 h.0 (λ k. n (before h k)))
              first _ (fan h w n) = inl (lit< tt)
              first _ (span h w n) = inl (lit< tt)

          module _ (twins : AtEach (listed l) Paired) where
            pub refuse_fan : (p : HalfEdgeId) → FirstBad (λ x. x.0) (Opens (listed l)) (3 * l.triangles) (Some p) → Refused l (ClosedFan p ((listed l).corner p))
            refuse_fan p (b, bad, before) = record { fails = fan p b bad; first = first }
              where
                first : (d : Refusal) → Fails l d → Before (ClosedFan p ((listed l).corner p)) d
                first _ (limits n) = absurd (n a)
                first _ (range v h n) = absurd (n (ranges v h))
                first _ (corner h w n) = absurd (n (corners h w))
                first _ (turn t w n) = absurd (n (turns t w))
                first _ (twin h w n) = absurd (n (twins h w))
                first _ (fan h w n) = inr (refl, from p.0 h.0 (λ k. n (before h k)))
                first _ (span h w n) = inl (lit< tt)

            module _ (fans : AtEach (listed l) Opens) where
              pub refuse_span : (p : HalfEdgeId) → FirstBad (λ x. x.0) (FallsShort (listed l)) (3 * l.triangles) (Some p) → Refused l (FullTurn p ((listed l).corner p))
              refuse_span p (b, bad, before) = record { fails = span p b bad; first = first }
                where
                  first : (d : Refusal) → Fails l d → Before (FullTurn p ((listed l).corner p)) d
                  first _ (limits n) = absurd (n a)
                  first _ (range v h n) = absurd (n (ranges v h))
                  first _ (corner h w n) = absurd (n (corners h w))
                  first _ (turn t w n) = absurd (n (turns t w))
                  first _ (twin h w n) = absurd (n (twins h w))
                  first _ (fan h w n) = absurd (n (fans h w))
                  first _ (span h w n) = inr (refl, from p.0 h.0 (λ k. n (before h k)))

              pub accept : AtEach (listed l) FallsShort → Accepted l
              accept spans = record { limits = a; ranges = ranges; sound = record { corners = corners; turns = turns; twins = twins; fans = fans; spans = spans } }
