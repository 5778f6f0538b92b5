-- A row of points, walked from its first point: what is behind and what is ahead measure together what the whole row does.
use Rattle.std.proofs.Common.{◌≡◌, ℕ, suc, ◌-◌, ◌*◌, ◌≤◌, List, [], ◌∷◌, map, length, get_or, take, drop, ℤ, ◌+ℤ◌, sym, ap, ◌∙◌, subst, arith}
use Rattle.std.proofs.lemmas.Int.{ints}
use Rattle.std.proofs.lemmas.List.{take_rest}
use Rattle.algebra.specs.Bounds.{Within}
use Rattle.algebra.specs.Number.{number, ◌⊕◌}
use Rattle.coordinates.specs.Values.{value}
use Rattle.coordinates.specs.declared.Surd.{Surd}
use Rattle.algebra.proofs.Quadratics.{quadratic_ring}
use Rattle.geometry.specs.Plane.{Point, step}
use Rattle.geometry.specs.Points.{step_value}
use Rattle.coordinates.specs.declared.Step.{Step}
use Rattle.gauge.specs.declared.Length.{Length}
use Rattle.gauge.specs.Forms.{length_value}
use Rattle.gauge.specs.Measure.{Form, measure, span}

-- rests on no piece being longer than 10^18
pub record Walked {P : Type 0} (at : P → Point) (fs : List Form) (start : P) (row : List P) (total : Length) (last : P) (left : List P) : Type 0 where
  pub sum : length_value total ⊕ span fs (at last) (map at left) ≡ span fs (at start) (map at row)
  pub few : length left ≤ length row
  pub p_bound : Within (1000000000000000000 * (length row - length left)) total.p
  pub q_bound : Within (1000000000000000000 * (length row - length left)) total.q

grown : (n k : ℕ) (a b c : ℤ) → suc k ≤ n → Within (1000000000000000000 * (n - suc k)) a → Within 1000000000000000000 b → c ≡ a +ℤ b → Within (1000000000000000000 * (n - k)) c
grown n k a b c h (al, ah) (bl, bh) e = (omega (arith, ints), omega (arith, ints))

pub walked_on : {P : Type 0} (at : P → Point) (fs : List Form) (start : P) (row : List P) (total : Length) (last : P) (left : List P) (first : P) (piece : Surd 1000000000000000000) (s : Step) (p q : ℤ)
    → Walked at fs start row total last left → 1 ≤ length left → first ≡ get_or left 0 first
    → step_value s ≡ step (at last) (at first) → value piece ≡ measure fs (step_value s)
    → p ≡ total.p +ℤ piece.p → q ≡ total.q +ℤ piece.q
    → Walked at fs start row (record { p = p; q = q }) first (take (length left - 1) (drop 1 left))
walked_on at fs start row total last [] first piece s p q w some is e f hp hq = absurd (omega arith)
walked_on at fs start row total last (x ∷ xs) first piece s p q w some is e f hp hq =
    subst (λ l. Walked at fs start row (record { p = p; q = q }) first l) (sym (take_rest (x ∷ xs) 1)) (record {
      sum =
          (λ i. number (hp i) (hq i) ⊕ span fs (at first) (map at xs))
          ∙ quadratic_ring.laws.ring.add_assoc (length_value total) (value piece) (span fs (at first) (map at xs))
          ∙ ap (λ m. length_value total ⊕ (m ⊕ span fs (at first) (map at xs))) (f ∙ ap (measure fs) e)
          ∙ ap (λ y. length_value total ⊕ (measure fs (step (at last) (at y)) ⊕ span fs (at y) (map at xs))) is
          ∙ w.sum;
      few = omega (arith, w.few);
      p_bound = grown (length row) (length xs) total.p piece.p p w.few w.p_bound piece.p_within hp;
      q_bound = grown (length row) (length xs) total.q piece.q q w.few w.q_bound piece.q_within hq;
    })
