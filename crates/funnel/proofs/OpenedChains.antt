-- The end point alone in the row: a push into memory with a slot is not refused, and then the row has no chains.
use Rattle.std.proofs.Common.{◌≡◌, ℕ, ◌<◌, List, [], ◌∷◌, length, Ok, Err, Result, sym, refl, ap, ◌∙◌, subst, arith, MatchResult}
use Rattle.std.proofs.lemmas.Bool.{cond-true, lt-ltb}
use Rattle.base.specs.declared.refusals.Refusal.{Refusal}
use Rattle.base.specs.Refusals.{refusal}
use Rattle.deque.specs.Contents.{full_refusal}
use Rattle.geometry.specs.Plane.{Point}
use Rattle.funnel.proofs.FromTheRight.{held}
use Rattle.funnel.specs.declared.Corner.{Corner}
use Rattle.funnel.specs.Chains.{Holds, no_chains}

put_first : {X : Type 0} (Q : Type 0) (l l' : List X) (c : X) (size : ℕ) (r : Result Unit Refusal) → l ≡ [] → 0 < size → refusal r ≡ full_refusal l size
    → MatchResult r (λ _. l' ≡ c ∷ l) (λ _. Q) → l' ≡ c ∷ []
put_first Q l l' c size (Ok u) none some verdict effect = effect ∙ ap (λ k. c ∷ k) none
put_first Q l l' c size (Err x) none some verdict effect =
    let no : 1 ≡ 0 = ap held (verdict ∙ cond-true _ _ _ (lt-ltb (length l) size (omega (arith, some, ap length none)))) in
    absurd (omega (arith, no))

pub alone : {P : Type 0} (at : P → Point) (Q : Type 0) (l l' bends : List (Corner P)) (c : Corner P) (size : ℕ) (r : Result Unit Refusal) → l ≡ [] → bends ≡ [] → 0 < size
    → refusal r ≡ full_refusal l size → MatchResult r (λ _. l' ≡ c ∷ l) (λ _. Q) → Holds at (at c.point) l' 0 0 bends 0 (no_chains at)
alone at Q l l' bends c size r none no_bends some verdict effect =
    subst (λ b. Holds at (at c.point) l' 0 0 b 0 (no_chains at)) (sym no_bends)
    (record { nears = []; apex = c; fars = []; parts = put_first Q l l' c size r none some verdict effect; near_count = refl; far_count = refl; top = refl; is = refl; few = omega arith })
