-- After all walks, the first corner that is not marked is the first whose fan is closed.
use Rattle.std.proofs.Common.{◌≡◌, ℕ, ◌*◌, Bool, List, Some, None, Option, arith}
use Rattle.base.specs.declared.ids.HalfEdgeId.{HalfEdgeId}
use Rattle.mesh.specs.Surface.{Surface, Opens}
use Rattle.mesh.specs.Stages.{Marked, Walked}
use Rattle.mesh.specs.Verdict.{FirstBad}

-- n is the number of half-edges
pub fan_scan : (f : Surface) (m : List Bool) (n : ℕ) → n ≡ 3 * f.F → Walked f m → (o : Option HalfEdgeId) → FirstBad (λ x. x.0) (Marked m) n o → FirstBad (λ x. x.0) (Opens f) (3 * f.F) o
fan_scan f m n all a None s = λ x b. a.only x b (s x (omega (arith, b, all)))
fan_scan f m n all a (Some i) s = (
  omega (arith, s.0, all),
  (λ o. s.1 (a.opened i (omega (arith, s.0, all)) o)),
  (λ x b. a.only x (omega (arith, s.0, b, all)) (s.2 x b)),
)
