-- The order of the numbers p + q√2, said by AtMost: reflexive, transitive, antisymmetric, kept by sums and by multiples that are not negative.
-- Each is the lemma of every ordered ring, at these numbers.
use Rattle.std.proofs.Common.{◌≡◌, sym, refl, ap, ◌∙◌}
use Rattle.algebra.specs.Arithmetic.{Nn}
use Rattle.algebra.specs.Number.{Number, zero, minus, Positive, ◌⊕◌, ◌⊖◌, ◌⊛◌, quadratics}
use Rattle.algebra.specs.Order.{AtMost}
use Rattle.algebra.proofs.RingSolver.{ring, ◌:-◌, :-◌, ◌:=◌}
use Rattle.algebra.proofs.OrderedRing.{OrderedRing, base, nn_eq, nn_pos, nn_nil, pos_eq, le_refl, le_trans, le_antisymm, le_add, le_mul}
use Rattle.algebra.proofs.Quadratics.{quadratic_ring}

abbrev K : OrderedRing
K = quadratic_ring

pub at_most_refl : (a : Number) → AtMost a a
at_most_refl a = record { gap = le_refl K a }

pub at_most_trans : {a b c : Number} → AtMost a b → AtMost b c → AtMost a c
at_most_trans {a} {b} {c} h k = record { gap = le_trans K {a = a} {b = b} {c = c} h.gap k.gap }

pub at_most_antisymm : {a b : Number} → AtMost a b → AtMost b a → a ≡ b
at_most_antisymm {a} {b} h k = le_antisymm K {a = a} {b = b} h.gap k.gap

pub at_most_add : {a b c d : Number} → AtMost a b → AtMost c d → AtMost (a ⊕ c) (b ⊕ d)
at_most_add {a} {b} {c} {d} h k = record { gap = le_add K {a = a} {b = b} {c = c} {d = d} h.gap k.gap }

pub at_most_mul : (k : Number) {a b : Number} → Nn quadratics k → AtMost a b → AtMost (k ⊛ a) (k ⊛ b)
at_most_mul k {a} {b} n h = record { gap = le_mul K {w = k} {a = a} {b = b} n h.gap }

pub turned : (a b : Number) → minus (a ⊖ b) ≡ b ⊖ a
turned a b = ring (base K) 2 (λ a b. :- (a :- b) := b :- a) refl a b

pub at_most_of_minus : (a b : Number) → Positive (minus (a ⊖ b)) → AtMost a b
at_most_of_minus a b h = record { gap = nn_pos K (pos_eq K (turned a b) h) }

pub at_most_of_zero : (a b : Number) → a ⊖ b ≡ zero → AtMost a b
at_most_of_zero a b e = record { gap = nn_eq K (sym (ap minus e) ∙ turned a b) (nn_nil K) }

pub at_most_of_plus : (a b : Number) → Positive (a ⊖ b) → AtMost b a
at_most_of_plus a b h = record { gap = nn_pos K h }
