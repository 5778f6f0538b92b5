-- How large the product of two whole numbers is, and numbers by their parts.
use Rattle.std.proofs.Common.{◌≡◌, ℕ, ◌*◌, ◌≤◌, ℤ, pos, negsuc, ◌*ℤ◌, unsigned_abs, mul-le-mul, arith}
use Rattle.std.proofs.lemmas.Int.{ints, unsigned_abs-mul}
use Rattle.algebra.specs.Bounds.{Within}
use Rattle.algebra.specs.Number.{number}

pub abs_from : (n : ℕ) (z : ℤ) → Within n z → unsigned_abs z ≤ n
abs_from n (pos a) (l, h) = omega (arith, ints)
abs_from n (negsuc a) (l, h) = omega (arith, ints)

pub within_from : (n : ℕ) (z : ℤ) → unsigned_abs z ≤ n → Within n z
within_from n (pos a) h = (omega (arith, ints), omega (arith, ints))
within_from n (negsuc a) h = (omega (arith, ints), omega (arith, ints))

pub within_times : (m n : ℕ) (a b : ℤ) → Within m a → Within n b → Within (m * n) (a *ℤ b)
within_times m n a b h k =
    let le = mul-le-mul (abs_from m a h) (abs_from n b k) in
    within_from (m * n) (a *ℤ b) (rw unsigned_abs-mul le)

-- two numbers with the same parts
pub same_number : {a b c d : ℤ} → a ≡ c → b ≡ d → number a b ≡ number c d
same_number e f = λ i. number (e i) (f i)
