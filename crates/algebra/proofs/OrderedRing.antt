-- An ordered commutative ring, and a shelf of lemmas on signs over it.
-- Pos says positive, Nn not negative. `search signs` finds the sign of a sum of products from the signs of its parts;
-- an identity with the positive combination on the left, from the ring solver, then gives the sign of the right.
use Rattle.std.proofs.Common.{◌≡◌, ◌⊎◌, sym, refl, ap, ◌∙◌, subst, inl, inr}
use Rattle.algebra.specs.Arithmetic.{Arithmetic, OrderedRingLaws, Nn}
use Rattle.algebra.proofs.RingSolver.{CommRing, ring, ◌:+◌, ◌:-◌, ◌:*◌, :-◌, ◌:=◌, :0, neg_nil, nil_mul, sub_nil}

pub record OrderedRing : Type 1 where
  pub numbers : Arithmetic
  pub laws : OrderedRingLaws numbers

abbrev pub base : OrderedRing → CommRing
base K = record { carrier = K.numbers.carrier; ops = K.numbers.ops; laws = K.laws.ring }

module _ (K : OrderedRing) where
  abbrev N : Arithmetic
  N = K.numbers

  abbrev R : CommRing
  R = base K

  open N use {carrier as A, Pos}
  open N.ops use {nil as 𝟘, one as 𝟙, add as ◌+◌, mul as ◌*◌, neg as -◌}
  open K.laws.ring use {add_nil, add_comm, mul_comm}
  open K.laws.order use {pos_nil, pos_add as pos_add₀, pos_mul as pos_mul₀, trichotomy}

  infixl 65 ◌+◌ ◌-◌
  infixl 70 ◌*◌
  infix 75 -◌
  infix 50 ◌<◌ ◌≤◌
  abbrev ◌-◌ : A → A → A
  a - b = a + - b

  abbrev pub ◌<◌ : A → A → Type 0
  a < b = Pos (b - a)

  abbrev pub ◌≤◌ : A → A → Type 0
  a ≤ b = Nn N (b - a)

  pub pos_add : {a b : A} → Pos a → Pos b → Pos (a + b)
  pos_add p q = pos_add₀ p q

  pub pos_mul : {a b : A} → Pos a → Pos b → Pos (a * b)
  pos_mul p q = pos_mul₀ p q

  pub pos_eq : {a b : A} → a ≡ b → Pos a → Pos b
  pos_eq e p = subst Pos e p

  pub nn_eq : {a b : A} → a ≡ b → Nn N a → Nn N b
  nn_eq e p = subst (Nn N) e p

  pub clash {ℓ} : {X : Type ℓ} {a : A} → Pos a → Pos (- a) → X
  clash {a = a} p q = absurd (pos_nil (pos_eq (ring R 1 (λ a. a :- a := :0) refl a) (pos_add p q)))

  pub nn_pos : {a : A} → Pos a → Nn N a
  nn_pos p = record { not_neg = λ q. clash p q }

  pub nn_nil : Nn N 𝟘
  nn_nil = record { not_neg = λ q. pos_nil (pos_eq (neg_nil R) q) }

  -- the three ways to split on a sign
  pub nn_split : {a : A} → Nn N a → Pos a ⊎ (a ≡ 𝟘)
  nn_split {a} h = elim (trichotomy a) [ inl p ↦ inl p | inr (inl e) ↦ inr e | inr (inr q) ↦ absurd (h.not_neg q) ]

  pub sign : (a : A) → Nn N a ⊎ Pos (- a)
  sign a = elim (trichotomy a) [ inl p ↦ inl (nn_pos p) | inr (inl e) ↦ inl (nn_eq (sym e) nn_nil) | inr (inr q) ↦ inr q ]

  pub sign' : (a : A) → Pos a ⊎ Nn N (- a)
  sign' a = elim (trichotomy a) [ inl p ↦ inl p | inr (inl e) ↦ inr (nn_eq (sym (neg_nil R) ∙ ap -◌ (sym e)) nn_nil) | inr (inr q) ↦ inr (nn_pos q) ]

  pub pos_add_nn : {a b : A} → Pos a → Nn N b → Pos (a + b)
  pos_add_nn {a} {b} p h = elim (nn_split h) [ inl q ↦ pos_add p q | inr e ↦ pos_eq (sym (ap (λ x. a + x) e ∙ add_nil a)) p ]

  pub nn_add_pos : {a b : A} → Nn N a → Pos b → Pos (a + b)
  nn_add_pos {a} {b} h p = pos_eq (add_comm b a) (pos_add_nn p h)

  pub nn_add : {a b : A} → Nn N a → Nn N b → Nn N (a + b)
  nn_add {a} {b} h k = elim (nn_split h) [ inl p ↦ nn_pos (pos_add_nn p k) | inr e ↦ nn_eq (sym (ap (λ x. x + b) e ∙ add_comm 𝟘 b ∙ add_nil b)) k ]

  pub nn_mul : {a b : A} → Nn N a → Nn N b → Nn N (a * b)
  nn_mul {a} {b} h k = elim (nn_split h) [
    | inl p ↦ elim (nn_split k) [ inl q ↦ nn_pos (pos_mul p q) | inr e ↦ nn_eq (sym (ap (λ x. a * x) e ∙ mul_comm a 𝟘 ∙ nil_mul R a)) nn_nil ]
    | inr e ↦ nn_eq (sym (ap (λ x. x * b) e ∙ nil_mul R b)) nn_nil
  ]

  pub nn_sq : (a : A) → Nn N (a * a)
  nn_sq a = elim (sign a) [ inl h ↦ nn_mul h h | inr q ↦ nn_eq (ring R 1 (λ a. (:- a) :* (:- a) := a :* a) refl a) (nn_pos (pos_mul q q)) ]

  -- a factor that is positive can be left out
  pub pos_cancel : {w a : A} → Pos w → Pos (w * a) → Pos a
  pos_cancel {w} {a} p q = elim (sign' a) [ inl r ↦ r | inr h ↦ absurd ((nn_mul (nn_pos p) h).not_neg (pos_eq (ring R 2 (λ w a. w :* a := :- (w :* :- a)) refl w a) q)) ]

  pub nn_cancel : {w a : A} → Pos w → Nn N (w * a) → Nn N a
  nn_cancel {w} {a} p q = record { not_neg = λ r. q.not_neg (pos_eq (ring R 2 (λ w a. w :* :- a := :- (w :* a)) refl w a) (pos_mul p r)) }

  -- for `search`
  pub ruleset signs = (pos_add, pos_mul, pos_add_nn, nn_add_pos, nn_pos, nn_add, nn_mul, nn_sq, nn_nil)

  -- ---- the order
  pub lt_irrefl : {a : A} → ¬ (a < a)
  lt_irrefl {a} h = pos_nil (pos_eq (ring R 1 (λ a. a :- a := :0) refl a) h)

  pub le_refl : (a : A) → a ≤ a
  le_refl a = nn_eq (ring R 1 (λ a. :0 := a :- a) refl a) nn_nil

  pub le_of_lt : {a b : A} → a < b → a ≤ b
  le_of_lt h = nn_pos h

  gap : (a b c : A) → b - a + (c - b) ≡ c - a
  gap = ring R 3 (λ a b c. b :- a :+ (c :- b) := c :- a) refl

  pub lt_trans : {a b c : A} → a < b → b < c → a < c
  lt_trans {a} {b} {c} h k = pos_eq (gap a b c) (pos_add h k)

  pub le_trans : {a b c : A} → a ≤ b → b ≤ c → a ≤ c
  le_trans {a} {b} {c} h k = nn_eq (gap a b c) (nn_add h k)

  pub lt_le_trans : {a b c : A} → a < b → b ≤ c → a < c
  lt_le_trans {a} {b} {c} h k = pos_eq (gap a b c) (pos_add_nn h k)

  pub le_lt_trans : {a b c : A} → a ≤ b → b < c → a < c
  le_lt_trans {a} {b} {c} h k = pos_eq (gap a b c) (nn_add_pos h k)

  pub lt_or_le : (a b : A) → (a < b) ⊎ (b ≤ a)
  lt_or_le a b = elim (sign' (b - a)) [ inl h ↦ inl h | inr h ↦ inr (nn_eq (ring R 2 (λ a b. :- (b :- a) := a :- b) refl a b) h) ]

  pub le_antisymm : {a b : A} → a ≤ b → b ≤ a → a ≡ b
  le_antisymm {a} {b} h k = elim (nn_split h) [
    | inl p ↦ absurd (k.not_neg (pos_eq (ring R 2 (λ a b. b :- a := :- (a :- b)) refl a b) p))
    | inr e ↦ sym (sub_nil R b a e)
  ]

  pub le_add : {a b c d : A} → a ≤ b → c ≤ d → a + c ≤ b + d
  le_add {a} {b} {c} {d} h k = nn_eq (ring R 4 (λ a b c d. b :- a :+ (d :- c) := b :+ d :- (a :+ c)) refl a b c d) (nn_add h k)

  pub le_mul : {w a b : A} → Nn N w → a ≤ b → w * a ≤ w * b
  le_mul {w} {a} {b} h k = nn_eq (ring R 3 (λ w a b. w :* (b :- a) := w :* b :- w :* a) refl w a b) (nn_mul h k)

  pub lt_mul : {w a b : A} → Pos w → a < b → w * a < w * b
  lt_mul {w} {a} {b} h k = pos_eq (ring R 3 (λ w a b. w :* (b :- a) := w :* b :- w :* a) refl w a b) (pos_mul h k)

  -- w > 0 and w x ≤ w y imply x ≤ y
  pub le_cancel : {w x y : A} → Pos w → w * x ≤ w * y → x ≤ y
  le_cancel {w} {x} {y} p h = nn_cancel p (nn_eq (ring R 3 (λ w x y. w :* y :- w :* x := w :* (y :- x)) refl w x y) h)

  pub lt_cancel : {w x y : A} → Pos w → w * x < w * y → x < y
  lt_cancel {w} {x} {y} p h = pos_cancel p (pos_eq (ring R 3 (λ w x y. w :* y :- w :* x := w :* (y :- x)) refl w x y) h)

  -- no zero divisors
  pub nil_cancel : {w a : A} → Pos w → w * a ≡ 𝟘 → a ≡ 𝟘
  nil_cancel {w} {a} p e = elim (trichotomy a) [
    | inl q ↦ absurd (pos_nil (pos_eq e (pos_mul p q)))
    | inr (inl z) ↦ z
    | inr (inr q) ↦ absurd (pos_nil (pos_eq (ring R 2 (λ w a. w :* (:- a) := :- (w :* a)) refl w a ∙ ap -◌ e ∙ neg_nil R) (pos_mul p q)))
  ]

  -- both are zero, if their sum is
  pub nn_both : {a b : A} → Nn N a → Nn N b → a + b ≡ 𝟘 → (a ≡ 𝟘) × (b ≡ 𝟘)
  nn_both {a} {b} h k e = elim (nn_split h) [
    | inl p ↦ absurd (pos_nil (pos_eq e (pos_add_nn p k)))
    | inr z ↦ elim (nn_split k) [ inl q ↦ absurd (pos_nil (pos_eq e (nn_add_pos h q))) | inr y ↦ (z, y) ]
  ]
