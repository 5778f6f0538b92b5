-- The first number that is found, as the id of that number.
use Rattle.std.proofs.Common.{◌≡◌, ℕ, ◌<◌, ◌≤◌, Some, None, Option, MatchOption, IsSomeAnd, sym, ap, ◌∙◌, subst, arith}
use Rattle.mesh.specs.Verdict.{FirstBad}

module _ {I : Type 0} (at : I → ℕ) (id : ℕ → I) (back : (x : I) → id (at x) ≡ x) (there : (k : ℕ) → at (id k) ≡ k) (Good : I → Type 0) (n : ℕ) where
  pub first_found : (r : Option ℕ) (o : Option I)
      → MatchOption r ((k : ℕ) → 0 ≤ k → k < n → Good (id k)) (λ i. (0 ≤ i) × (i < n) × (Good (id i) → ⊥) × ((k : ℕ) → 0 ≤ k → k < i → Good (id k)))
      → MatchOption r (o ≡ None) (λ i. IsSomeAnd o (λ x. at x ≡ i))
      → FirstBad at Good n o
  first_found None None all same = λ x b. subst Good (back x) (all (at x) (omega arith) b)
  first_found None (Some x) all same = absurd (let z : ◌≡◌ {A = ℕ} 0 1 = cc in omega arith)
  first_found (Some i) None all same = absurd same
  first_found (Some i) (Some x) all same =
      let is : id i ≡ x = ap id (sym same) ∙ back x in
      subst (λ y. FirstBad at Good n (Some y)) is (
        omega (arith, there i, all.1),
        all.2,
        (λ y b. subst Good (back y) (all.3 (at y) (omega arith) (omega (arith, there i, b)))),
      )
