-- The order that the signs of differences give is total, and only equal numbers are level in it.
use Rattle.std.proofs.Common.{◌≡◌, Bool, true, false, ◌&&◌, sym, refl, ap, ◌∙◌, subst}
use Rattle.std.specs.Cmp.{IsTotalOrder, both_ways, signed_Decides}
use Rattle.std.specs.declared.cmp.Ordering.{Ordering}
use Rattle.std.specs.declared.cmp.Ordering.TheVariants.{Less, Equal, Greater}
use Rattle.std.specs.Ordering.{ordering_reverse, is_eq, int_eq}
use Rattle.algebra.specs.declared.Sign.{Sign}
use Rattle.algebra.specs.declared.Sign.TheVariants.{Minus, Zero, Plus}
use Rattle.algebra.specs.Number.{Number, number, zero, minus, sign, ordering, compare, Positive, Signed, ◌⊖◌}
use Rattle.algebra.proofs.RingSolver.{sub_nil}
use Rattle.algebra.proofs.OrderedRing.{OrderedRing, base, clash, lt_trans}
use Rattle.algebra.proofs.NumberOrder.{turned}
use Rattle.algebra.proofs.Quadratics.{quadratic_ring, signs_say}

abbrev K : OrderedRing
K = quadratic_ring

no_zero : {a : Number} → Positive a → a ≡ zero → ⊥
no_zero h e = K.laws.order.pos_nil (subst Positive e h)

no_minus_zero : {a : Number} → Positive (minus a) → a ≡ zero → ⊥
no_minus_zero h e = K.laws.order.pos_nil (subst Positive (ap minus e) h)

one_sign : (s t : Sign) (a : Number) → Signed s a → Signed t a → s ≡ t
one_sign Minus Minus a h k = refl
one_sign Minus Zero a h k = absurd (no_minus_zero h k)
one_sign Minus Plus a h k = clash K k h
one_sign Zero Minus a h k = absurd (no_minus_zero k h)
one_sign Zero Zero a h k = refl
one_sign Zero Plus a h k = absurd (no_zero k h)
one_sign Plus Minus a h k = clash K h k
one_sign Plus Zero a h k = absurd (no_zero h k)
one_sign Plus Plus a h k = refl

ordered : (s : Sign) (a b : Number) → Signed s (a ⊖ b) → compare a b ≡ ordering s
ordered s a b h = ap ordering (one_sign (sign (a ⊖ b)) s (a ⊖ b) (signs_say (a ⊖ b)) h)

back_by : (s : Sign) (a b : Number) → Signed s (b ⊖ a) → compare a b ≡ ordering_reverse (ordering s)
back_by Minus a b h = ordered Plus a b (subst Positive (turned b a) h)
back_by Zero a b h = ordered Zero a b (sym (turned b a) ∙ ap minus h)
back_by Plus a b h = ordered Minus a b (subst Positive (sym (turned a b)) h)

less_by : (s : Sign) (a b : Number) → Signed s (a ⊖ b) → ordering s ≡ Less → Positive (b ⊖ a)
less_by Minus a b h e = subst Positive (turned a b) h
less_by Zero a b h e = cc
less_by Plus a b h e = cc

less_is : (a b : Number) → compare a b ≡ Less → Positive (b ⊖ a)
less_is a b e = less_by (sign (a ⊖ b)) a b (signs_say (a ⊖ b)) e

is_less : (a b : Number) → Positive (b ⊖ a) → compare a b ≡ Less
is_less a b h = ordered Minus a b (subst Positive (sym (turned a b)) h)

level_by : (s : Sign) (a b : Number) → Signed s (a ⊖ b) → ordering s ≡ Equal → a ≡ b
level_by Minus a b h e = cc
level_by Zero a b h e = sub_nil (base K) a b h
level_by Plus a b h e = cc

level_is : (a b : Number) → compare a b ≡ Equal → a ≡ b
level_is a b e = level_by (sign (a ⊖ b)) a b (signs_say (a ⊖ b)) e

is_level : (a b : Number) → a ≡ b → compare a b ≡ Equal
is_level a b e = ordered Zero a b (ap (λ n. n ⊖ b) e ∙ K.laws.ring.add_neg b)

pub compare_total : IsTotalOrder compare
compare_total = record {
  antisymm = λ a b. back_by (sign (b ⊖ a)) a b (signs_say (b ⊖ a));
  trans = λ a b c h k. is_less a c (lt_trans K {a = a} {b = b} {c = c} (less_is a b h) (less_is b c k));
  congr = λ a b c e. ap (λ n. compare n c) (level_is a b e);
}

both_true : (a b : Bool) → (a && b) ≡ true → (a ≡ true) × (b ≡ true)
both_true true b e = (refl, e)
both_true false b e = cc

same_parts : (a b : Number) → (int_eq a.p b.p && int_eq a.q b.q) ≡ true → a ≡ b
same_parts a b e =
    let h = both_true (int_eq a.p b.p) (int_eq a.q b.q) e in
    λ i. number ((signed_Decides a.p b.p).0 h.0 i) ((signed_Decides a.q b.q).0 h.1 i)

parts_same : (a b : Number) → a ≡ b → (int_eq a.p b.p && int_eq a.q b.q) ≡ true
parts_same a b e =
    let h = (signed_Decides a.p b.p).1 (ap (λ n. n.p) e) in
    let k = (signed_Decides a.q b.q).1 (ap (λ n. n.q) e) in
    rw h k

level_eq : (r : Ordering) → is_eq r ≡ true → r ≡ Equal
level_eq Less e = cc
level_eq Equal e = refl
level_eq Greater e = cc

pub compare_parts : (a b : Number) → (int_eq a.p b.p && int_eq a.q b.q) ≡ is_eq (compare a b)
compare_parts a b = both_ways (int_eq a.p b.p && int_eq a.q b.q) (is_eq (compare a b)) (λ e. ap is_eq (is_level a b (same_parts a b e))) (λ e. parts_same a b (level_is a b (level_eq (compare a b) e)))
