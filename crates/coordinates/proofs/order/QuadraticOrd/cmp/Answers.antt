use Rattle.std.proofs.Common.{◌≡◌, ℤ, ◌+ℤ◌, ◌-ℤ◌, neg_ℤ, ap, sym, subst, ◌∙◌, arith, to_z, of_z, w64}
use Rattle.std.proofs.lemmas.Int.{ints}
use Rattle.algebra.specs.declared.Sign.{Sign}
use Rattle.algebra.specs.Bounds.{Within}
use Rattle.algebra.specs.Number.{number, ordering, sign, ◌⊖◌}
use Rattle.algebra.proofs.Magnitudes.{same_number}
use Rattle.coordinates.specs.declared.Surd.{Surd}
use Rattle.coordinates.specs.Values.{value}
use Rattle.coordinates.proofs.order.QuadraticOrd.cmp.Goals as goal

abbrev gap : ℤ → ℤ → ℤ
gap a b = to_z w64 (of_z w64 (to_z w64 (of_z w64 a) -ℤ to_z w64 (of_z w64 b)))

gap_is : (a b : ℤ) → Within 1000000000000000000 a → Within 1000000000000000000 b → gap a b ≡ a +ℤ neg_ℤ b
gap_is a b (al, au) (bl, bu) = omega (arith, ints)

sign_of_gap : (s : Sign) (a b : Surd 1000000000000000000) → s ≡ sign (number (gap a.p b.p) (gap a.q b.q)) → s ≡ sign (value a ⊖ value b)
sign_of_gap s a b e = subst (λ n. s ≡ sign n) (same_number (gap_is a.p b.p a.p_within b.p_within) (gap_is a.q b.q a.q_within b.q_within)) e

pub returns-in-Minus : goal.returns-in-Minus
returns-in-Minus c = ap ordering (sym c.in-Minus.is ∙ sign_of_gap _ c.args.self.now c.args.other.now c.sign_of.ensures)

pub returns-in-Zero : goal.returns-in-Zero
returns-in-Zero c = ap ordering (sym c.in-Zero.is ∙ sign_of_gap _ c.args.self.now c.args.other.now c.sign_of.ensures)

pub returns-in-Plus : goal.returns-in-Plus
returns-in-Plus c = ap ordering (sym c.in-Plus.is ∙ sign_of_gap _ c.args.self.now c.args.other.now c.sign_of.ensures)
