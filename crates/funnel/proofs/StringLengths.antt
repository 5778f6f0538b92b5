-- A string, walked from its start: what is behind and what is ahead measure together what the whole string does.
use Rattle.std.proofs.Common.{◌≡◌, ℕ, suc, ◌-◌, ◌*◌, ◌<◌, ◌≤◌, List, [], ◌∷◌, ◌++◌, map, length, get_or, take, drop, ℤ, ◌+ℤ◌, sym, ap, ◌∙◌, subst, arith}
use Rattle.std.proofs.lemmas.Int.{ints}
use Rattle.std.proofs.lemmas.List.{take_rest}
use Rattle.algebra.specs.Bounds.{Within}
use Rattle.algebra.specs.Number.{number, ◌⊕◌}
use Rattle.coordinates.specs.Values.{value}
use Rattle.coordinates.specs.declared.Surd.{Surd}
use Rattle.algebra.proofs.Quadratics.{quadratic_ring}
use Rattle.geometry.specs.Plane.{Point, step}
use Rattle.gauge.specs.declared.Length.{Length}
use Rattle.gauge.specs.Forms.{length_value}
use Rattle.gauge.specs.Measure.{Form, measure, span}
use Rattle.funnel.specs.Corners.{Roomy}

pub same_number : (a b c d : ℤ) → a ≡ c → b ≡ d → number a b ≡ number c d
same_number a b c d e f = λ i. number (e i) (f i)

-- rests on no piece being longer than 10^18
pub record Strung {B : Type 0} (place : B → Point) (fs : List Form) (start : Point) (row : List B) (end : Point) (total : Length) (last : Point) (left : List B) : Type 0 where
  pub sum : length_value total ⊕ span fs last (map place left ++ end ∷ []) ≡ span fs start (map place row ++ end ∷ [])
  pub few : length left ≤ length row
  pub p_bound : Within (1000000000000000000 * (length row - length left)) total.p
  pub q_bound : Within (1000000000000000000 * (length row - length left)) total.q

grown_bound : (n k : ℕ) (a b c : ℤ) → suc k ≤ n → Within (1000000000000000000 * (n - suc k)) a → Within 1000000000000000000 b → c ≡ a +ℤ b → Within (1000000000000000000 * (n - k)) c
grown_bound n k a b c h (al, ah) (bl, bh) e = (omega (arith, ints), omega (arith, ints))

roomy_part : (n k : ℕ) (a : ℤ) → n ≤ 18446744073709551615 → Within (1000000000000000000 * (n - k)) a → Within 100000000000000000000000000000000000000 a
roomy_part n k a h (al, ah) = (omega (arith, ints), omega (arith, ints))

module _ {B : Type 0} (place : B → Point) (fs : List Form) (start : Point) (row : List B) (end : Point) (total : Length) (last : Point) where
  pub roomy : (left : List B) → Strung place fs start row end total last left → length row ≤ 18446744073709551615 → Roomy total
  roomy left w h = (roomy_part _ _ _ h w.p_bound, roomy_part _ _ _ h w.q_bound)

  pub strung_on : (left : List B) (none : B) (here : Point) (piece : Surd 1000000000000000000) (more : Length)
      → Strung place fs start row end total last left → 1 ≤ length left
      → here ≡ place (get_or left 0 none) → value piece ≡ measure fs (step last here) → length_value more ≡ length_value total ⊕ value piece
      → Strung place fs start row end more here (take (length left - 1) (drop 1 left))
  strung_on [] none here piece more w some e f g = absurd (omega arith)
  strung_on (x ∷ xs) none here piece more w some e f g =
      subst (λ l. Strung place fs start row end more here l) (sym (take_rest (x ∷ xs) 1)) (record {
        sum =
            ap (λ m. m ⊕ span fs here (map place xs ++ end ∷ [])) g
            ∙ quadratic_ring.laws.ring.add_assoc (length_value total) (value piece) (span fs here (map place xs ++ end ∷ []))
            ∙ ap (λ m. length_value total ⊕ (m ⊕ span fs here (map place xs ++ end ∷ []))) f
            ∙ ap (λ y. length_value total ⊕ (measure fs (step last y) ⊕ span fs y (map place xs ++ end ∷ []))) e
            ∙ w.sum;
        few = omega (arith, w.few);
        p_bound = grown_bound (length row) (length xs) total.p piece.p more.p w.few w.p_bound piece.p_within (ap (λ n. n.p) g);
        q_bound = grown_bound (length row) (length xs) total.q piece.q more.q w.few w.q_bound piece.q_within (ap (λ n. n.q) g);
      })

  pub strung_out : (left : List B) (piece : Surd 1000000000000000000) (more : Length) → Strung place fs start row end total last left → length left < 1
      → value piece ≡ measure fs (step last end) → length_value more ≡ length_value total ⊕ value piece
      → length_value more ≡ span fs start (map place row ++ end ∷ [])
  strung_out [] piece more w none f g =
      g ∙ ap (λ m. length_value total ⊕ m) (f ∙ sym (quadratic_ring.laws.ring.add_nil (measure fs (step last end)))) ∙ w.sum
  strung_out (x ∷ xs) piece more w none f g = absurd (omega arith)
