-- Numbers p + q√2 over an ordered ring in which 2 has no root are an ordered commutative ring.
-- By the norm p² − 2q²: a number is positive exactly if its norm and p are positive, or its norm is negative and q positive.
use Rattle.std.proofs.Common.{◌≡◌, ℕ, zero, suc, ◌+◌ as ◌+ⁿ◌, ◌⊎◌, List, [], ◌∷◌, refl, ap, ◌∙◌, subst, inl, inr}
use Rattle.algebra.specs.Arithmetic.{Ops, RingLaws, OrderLaws, Arithmetic, Nn}
use Rattle.algebra.proofs.RingSolver.{CommRing, ring, sub_nil, Expr, var, Eqn, difference, none, ev, sound, ◌:+◌, ◌:-◌, ◌:*◌, :-◌, ◌:=◌, :0, :1}
use Rattle.algebra.proofs.OrderedRing.{OrderedRing, base, signs, sign, sign', nn_pos, nn_split, pos_eq, clash, nn_nil}

-- p + q√2
pub record Pair (A : Type 0) : Type 0 where
  pub p : A
  pub q : A

-- ---- of expressions
infixl 65 ◌⊞◌
infixl 70 ◌⊠◌
infix 75 ⊟◌
abbrev pub ◌⊞◌ : Pair Expr → Pair Expr → Pair Expr
a ⊞ b = record { p = a.p :+ b.p; q = a.q :+ b.q }

abbrev pub ◌⊠◌ : Pair Expr → Pair Expr → Pair Expr
a ⊠ b = record { p = a.p :* b.p :+ (a.q :* b.q :+ a.q :* b.q); q = a.p :* b.q :+ a.q :* b.p }

abbrev pub ⊟◌ : Pair Expr → Pair Expr
⊟ a = record { p = :- a.p; q = :- a.q }

abbrev pub :norm : Pair Expr → Expr
:norm a = a.p :* a.p :- (a.q :* a.q :+ a.q :* a.q)

abbrev pub :conj : Pair Expr → Pair Expr
:conj a = record { p = a.p; q = :- a.q }

-- functions of n such numbers
abbrev pub FunS : ℕ → Type 0
FunS zero = Eqn
FunS (suc n) = Pair Expr → FunS n

abbrev pub close_s : (n : ℕ) → FunS n → Eqn
close_s zero e = e
close_s (suc n) f = close_s n (f (record { p = var (suc (n +ⁿ n)); q = var (n +ⁿ n) }))

module _ (R : CommRing) where
  open R use {carrier as A}
  open R.ops use {nil as 𝟘, one as 𝟙, add as ◌+◌, mul as ◌*◌, neg as -◌}
  open R.laws use {add_assoc, add_comm, add_nil, add_neg}

  infixl 65 ◌+◌ ◌-◌
  infixl 70 ◌*◌
  infix 75 -◌
  abbrev ◌-◌ : A → A → A
  a - b = a + - b

  abbrev pub HoldsS : (n : ℕ) → Eqn → List A → Type 0
  HoldsS zero (a := b) ρ = ev R a ρ ≡ ev R b ρ
  HoldsS (suc n) e ρ = (a : Pair A) → HoldsS n e (a.q ∷ a.p ∷ ρ)

  holds_s : (n : ℕ) (e : Eqn) (ρ : List A) → difference e ≡ none → HoldsS n e ρ
  holds_s zero (a := b) ρ h = sound R a b ρ h
  holds_s (suc n) e ρ h = λ a. holds_s n e (a.q ∷ a.p ∷ ρ) h

  pub ring_s : (n : ℕ) (f : FunS n) → difference (close_s n f) ≡ none → HoldsS n (close_s n f) []
  ring_s n f h = holds_s n (close_s n f) [] h

  abbrev pub add_s : Pair A → Pair A → Pair A
  add_s a b = record { p = a.p + b.p; q = a.q + b.q }

  abbrev pub mul_s : Pair A → Pair A → Pair A
  mul_s a b = record { p = a.p * b.p + (a.q * b.q + a.q * b.q); q = a.p * b.q + a.q * b.p }

  abbrev pub neg_s : Pair A → Pair A
  neg_s a = record { p = - a.p; q = - a.q }

  abbrev pub nil_s : Pair A
  nil_s = record { p = 𝟘; q = 𝟘 }

  abbrev pub one_s : Pair A
  one_s = record { p = 𝟙; q = 𝟘 }

  pub same : {a b : Pair A} → a.p ≡ b.p → a.q ≡ b.q → a ≡ b
  same e f = λ i. record { p = e i; q = f i }

  pub mul_s_assoc : (a b c : Pair A) → mul_s (mul_s a b) c ≡ mul_s a (mul_s b c)
  mul_s_assoc a b c = same (ring_s 3 (λ a b c. (a ⊠ b ⊠ c).p := (a ⊠ (b ⊠ c)).p) refl a b c) (ring_s 3 (λ a b c. (a ⊠ b ⊠ c).q := (a ⊠ (b ⊠ c)).q) refl a b c)

  pub mul_s_comm : (a b : Pair A) → mul_s a b ≡ mul_s b a
  mul_s_comm a b = same (ring_s 2 (λ a b. (a ⊠ b).p := (b ⊠ a).p) refl a b) (ring_s 2 (λ a b. (a ⊠ b).q := (b ⊠ a).q) refl a b)

  pub mul_s_one : (a : Pair A) → mul_s a one_s ≡ a
  mul_s_one a = same (ring_s 1 (λ a. a.p :* :1 :+ (a.q :* :0 :+ a.q :* :0) := a.p) refl a) (ring_s 1 (λ a. a.p :* :0 :+ a.q :* :1 := a.q) refl a)

  pub mul_s_add : (a b c : Pair A) → mul_s a (add_s b c) ≡ add_s (mul_s a b) (mul_s a c)
  mul_s_add a b c = same (ring_s 3 (λ a b c. (a ⊠ (b ⊞ c)).p := (a ⊠ b ⊞ a ⊠ c).p) refl a b c) (ring_s 3 (λ a b c. (a ⊠ (b ⊞ c)).q := (a ⊠ b ⊞ a ⊠ c).q) refl a b c)

  pub add_s_assoc : (a b c : Pair A) → add_s (add_s a b) c ≡ add_s a (add_s b c)
  add_s_assoc a b c = same (add_assoc a.p b.p c.p) (add_assoc a.q b.q c.q)

  pub add_s_comm : (a b : Pair A) → add_s a b ≡ add_s b a
  add_s_comm a b = same (add_comm a.p b.p) (add_comm a.q b.q)

  pub add_s_nil : (a : Pair A) → add_s a nil_s ≡ a
  add_s_nil a = same (add_nil a.p) (add_nil a.q)

  pub add_s_neg : (a : Pair A) → add_s a (neg_s a) ≡ nil_s
  add_s_neg a = same (add_neg a.p) (add_neg a.q)

  abbrev pub ops_s : Ops (Pair A)
  ops_s = record { nil = nil_s; one = one_s; add = add_s; mul = mul_s; neg = neg_s }

  pub laws_s : RingLaws ops_s
  laws_s = record { add_assoc = add_s_assoc; add_comm = add_s_comm; add_nil = add_s_nil; add_neg = add_s_neg; mul_assoc = mul_s_assoc; mul_comm = mul_s_comm; mul_one = mul_s_one; mul_add = mul_s_add }

-- ---- the sign
module _ (O : OrderedRing) where
  abbrev N : Arithmetic
  N = O.numbers

  abbrev B : CommRing
  B = base O

  open N use {carrier as A, Pos}
  open N.ops use {nil as 𝟘, one as 𝟙, add as ◌+◌, mul as ◌*◌, neg as -◌}
  open O.laws.order use {pos_nil, pos_one, trichotomy}

  infixl 65 ◌+◌ ◌∸◌
  infixl 70 ◌*◌
  infix 75 -◌
  abbrev ◌∸◌ : A → A → A
  a ∸ b = a + - b

  pub data Positive (a : Pair A) : Type 0 where
    neither : Nn N a.p → Nn N a.q → ¬ ((a.p ≡ 𝟘) × (a.q ≡ 𝟘)) → Positive a
    fat : Pos a.p → Pos (- a.q) → Pos (a.p * a.p ∸ (a.q * a.q + a.q * a.q)) → Positive a
    thin : Pos a.q → Pos (- a.p) → Pos (a.q * a.q + a.q * a.q ∸ a.p * a.p) → Positive a

  norm : Pair A → A
  norm a = a.p * a.p ∸ (a.q * a.q + a.q * a.q)

  -- the same in two cases
  data Up (a : Pair A) : Type 0 where
    wide : Pos (norm a) → Pos a.p → Up a
    tall : Pos (- norm a) → Pos a.q → Up a

  -- from x² < y² and 0 < y
  over : (x y : A) → Pos y → Pos (y * y ∸ x * x) → Pos (y + x)
  over x y h k = elim (sign' O (y + x)) [
    | inl r ↦ r
    | inr n ↦
        let d : Pos (y ∸ x) = pos_eq O (ring B 2 (λ x y. y :+ y :+ (:- (y :+ x)) := y :- x) refl x y) (search signs) in
        absurd (pos_nil (pos_eq O (ring B 2 (λ x y. y :* y :- x :* x :+ (:- (y :+ x)) :* (y :- x) := :0) refl x y) (search signs)))
  ]

  under : (x y : A) → Pos y → Pos (y * y ∸ x * x) → Pos (y ∸ x)
  under x y h k = over (- x) y h (pos_eq O (ring B 2 (λ x y. y :* y :- x :* x := y :* y :- (:- x) :* (:- x)) refl x y) k)

  -- which part of a product is the greater
  prqs : (a b : Pair A) → Pos (norm a) → Pos (norm b) → Pos b.p → Pos ((a.p * b.p) * (a.p * b.p) ∸ (a.q * b.q + a.q * b.q) * (a.q * b.q + a.q * b.q))
  unfolding norm
  prqs a b n m k = pos_eq O (ring_s B 2 (λ a b. :norm a :* (b.p :* b.p) :+ (a.q :* a.q :+ a.q :* a.q) :* :norm b := (a.p :* b.p) :* (a.p :* b.p) :- (a.q :* b.q :+ a.q :* b.q) :* (a.q :* b.q :+ a.q :* b.q)) refl a b) (search signs)

  psqr : (a b : Pair A) → Pos (norm a) → Pos (- norm b) → Pos b.q → Pos ((a.p * b.q) * (a.p * b.q) ∸ (a.q * b.p) * (a.q * b.p))
  unfolding norm
  psqr a b n m k = pos_eq O (ring_s B 2 (λ a b. :norm a :* (b.q :* b.q) :+ (a.q :* a.q) :* (:- :norm b) := (a.p :* b.q) :* (a.p :* b.q) :- (a.q :* b.p) :* (a.q :* b.p)) refl a b) (search signs)

  qspr : (a b : Pair A) → Pos (- norm a) → Pos (- norm b) → Pos b.q → Pos ((a.q * b.q + a.q * b.q) * (a.q * b.q + a.q * b.q) ∸ (a.p * b.p) * (a.p * b.p))
  unfolding norm
  qspr a b n m k = pos_eq O (ring_s B 2 (λ a b. (:- :norm a) :* (b.q :* b.q :+ b.q :* b.q) :+ (a.p :* a.p) :* (:- :norm b) := (a.q :* b.q :+ a.q :* b.q) :* (a.q :* b.q :+ a.q :* b.q) :- (a.p :* b.p) :* (a.p :* b.p)) refl a b) (search signs)

  norm_wide : (a b : Pair A) → norm a * norm b ≡ norm (mul_s B a b)
  unfolding norm
  norm_wide = ring_s B 2 (λ a b. :norm a :* :norm b := :norm (a ⊠ b)) refl

  norm_tall : (a b : Pair A) → norm a * - norm b ≡ - norm (mul_s B a b)
  unfolding norm
  norm_tall = ring_s B 2 (λ a b. :norm a :* (:- :norm b) := :- :norm (a ⊠ b)) refl

  norm_both : (a b : Pair A) → - norm a * - norm b ≡ norm (mul_s B a b)
  unfolding norm
  norm_both = ring_s B 2 (λ a b. (:- :norm a) :* (:- :norm b) := :norm (a ⊠ b)) refl

  tall_q : (a b : Pair A) → Pos (norm a) → Pos a.p → Pos (- norm b) → Pos b.q → Pos (mul_s B a b).q
  tall_q a b n h m k = over (a.q * b.p) (a.p * b.q) (search signs) (psqr a b n m k)

  up_mul : (a b : Pair A) → Up a → Up b → Up (mul_s B a b)
  up_mul a b (wide n h) (wide m k) = wide (pos_eq O (norm_wide a b) (search signs)) (over (a.q * b.q + a.q * b.q) (a.p * b.p) (search signs) (prqs a b n m k))
  up_mul a b (wide n h) (tall m k) = tall (pos_eq O (norm_tall a b) (search signs)) (tall_q a b n h m k)
  up_mul a b (tall n h) (wide m k) = subst Up (mul_s_comm B b a) (tall (pos_eq O (norm_tall b a) (search signs)) (tall_q b a m k n h))
  up_mul a b (tall n h) (tall m k) = wide (pos_eq O (norm_both a b) (search signs)) (pos_eq O (O.laws.ring.add_comm (a.q * b.q + a.q * b.q) (a.p * b.p)) (over (a.p * b.p) (a.q * b.q + a.q * b.q) (search signs) (qspr a b n m k)))

  -- ---- the sum
  sum_wide : (a b : Pair A) → norm a + norm b + ((a.p * b.p ∸ (a.q * b.q + a.q * b.q)) + (a.p * b.p ∸ (a.q * b.q + a.q * b.q))) ≡ norm (add_s B a b)
  unfolding norm
  sum_wide = ring_s B 2 (λ a b. :norm a :+ :norm b :+ ((a.p :* b.p :- (a.q :* b.q :+ a.q :* b.q)) :+ (a.p :* b.p :- (a.q :* b.q :+ a.q :* b.q))) := :norm (a ⊞ b)) refl

  sum_tall : (a b : Pair A) → - norm a + - norm b + ((a.q * b.q + a.q * b.q ∸ a.p * b.p) + (a.q * b.q + a.q * b.q ∸ a.p * b.p)) ≡ - norm (add_s B a b)
  unfolding norm
  sum_tall = ring_s B 2 (λ a b. (:- :norm a) :+ (:- :norm b) :+ ((a.q :* b.q :+ a.q :* b.q :- a.p :* b.p) :+ (a.q :* b.q :+ a.q :* b.q :- a.p :* b.p)) := :- :norm (a ⊞ b)) refl

  abbrev conj : Pair A → Pair A
  conj a = record { p = a.p; q = - a.q }

  norm_conj : (a : Pair A) → norm a ≡ norm (conj a)
  unfolding norm
  norm_conj = ring_s B 1 (λ a. :norm a := :norm (:conj a)) refl

  abbrev flat : A → Pair A
  flat n = record { p = n; q = 𝟘 }

  near_is : (a b : Pair A) → norm (neg_s B (add_s B (flat a.p) b)) + - norm b + (a.p * - (a.p + b.p) + a.p * - (a.p + b.p)) + a.p * a.p ≡ 𝟘
  unfolding norm
  near_is = ring_s B 2 (λ a b. :norm (⊟ (record { p = a.p; q = :0 } ⊞ b)) :+ (:- :norm b) :+ (a.p :* (:- (a.p :+ b.p)) :+ a.p :* (:- (a.p :+ b.p))) :+ a.p :* a.p := :0) refl

  near : (n : A) (b : Pair A) → Pos n → Pos (- norm b) → Pos b.q → Up (neg_s B (add_s B (flat n) b)) → ⊥
  near n b h m k (wide u v) = pos_nil (pos_eq O (near_is (flat n) b) (search signs))
  near n b h m k (tall u v) = clash O k (pos_eq O (ring B 1 (λ s. :- (:0 :+ s) := :- s) refl b.q) v)

  turned : (a b : Pair A) → mul_s B (conj a) (neg_s B (add_s B a b)) ≡ neg_s B (add_s B (flat (norm a)) (mul_s B (conj a) b))
  unfolding norm
  turned a b = same B
      (ring_s B 2 (λ a b. (:conj a ⊠ (⊟ (a ⊞ b))).p := :- (:norm a :+ (:conj a ⊠ b).p)) refl a b)
      (ring_s B 2 (λ a b. (:conj a ⊠ (⊟ (a ⊞ b))).q := :- (:0 :+ (:conj a ⊠ b).q)) refl a b)

  crossed : (a b : Pair A) → (mul_s B (conj a) b).q ≡ a.p * (a.q + b.q) + (- a.q) * (a.p + b.p)
  crossed = ring_s B 2 (λ a b. (:conj a ⊠ b).q := a.p :* (a.q :+ b.q) :+ (:- a.q) :* (a.p :+ b.p)) refl

  module _ (irrational : (p q : A) → p * p ≡ q * q + q * q → (p ≡ 𝟘) × (q ≡ 𝟘)) where
    no_p : (a : Pair A) → Pos (norm a) → a.p ≡ 𝟘 → ⊥
    unfolding norm
    no_p a n e = pos_nil (pos_eq O (ring_s B 1 (λ a. :norm a :+ (a.q :* a.q :+ a.q :* a.q) := a.p :* a.p) refl a ∙ ap (λ x. x * x) e ∙ ring B 0 (:0 :* :0 := :0) refl) (search signs))

    no_q : (a : Pair A) → Pos (- norm a) → a.q ≡ 𝟘 → ⊥
    unfolding norm
    no_q a n e = pos_nil (pos_eq O (ring_s B 1 (λ a. (:- :norm a) :+ a.p :* a.p := a.q :* a.q :+ a.q :* a.q) refl a ∙ ap (λ x. x * x + x * x) e ∙ ring B 0 (:0 :* :0 :+ :0 :* :0 := :0) refl) (search signs))

    up_or : (a : Pair A) → Up a ⊎ ((a ≡ nil_s B) ⊎ Up (neg_s B a))
    unfolding norm
    up_or a = elim (trichotomy (norm a)) [
      | inl n ↦ elim (trichotomy a.p) [ inl h ↦ inl (wide n h) | inr (inl e) ↦ absurd (no_p a n e) | inr (inr h) ↦ inr (inr (wide (pos_eq O (norm_neg a) n) h)) ]
      | inr (inl e) ↦ let z = irrational a.p a.q (sub_nil B (a.p * a.p) (a.q * a.q + a.q * a.q) e) in inr (inl (same B z.0 z.1))
      | inr (inr n) ↦ elim (trichotomy a.q) [ inl h ↦ inl (tall n h) | inr (inl e) ↦ absurd (no_q a n e) | inr (inr h) ↦ inr (inr (tall (pos_eq O (ap -◌ (norm_neg a)) n) h)) ]
    ]
      where
        norm_neg : (a : Pair A) → norm a ≡ norm (neg_s B a)
        norm_neg = ring_s B 1 (λ a. :norm a := :norm (⊟ a)) refl

    up_mixed : (a b : Pair A) → Pos (norm a) → Pos a.p → Pos (- norm b) → Pos b.q → Up (add_s B a b)
    up_mixed a b n h m k =
        let n' : Pos (norm (conj a)) = pos_eq O (norm_conj a) n in
        let m' : Pos (- norm (mul_s B (conj a) b)) = pos_eq O (norm_tall (conj a) b) (search signs) in
        let k' : Pos (mul_s B (conj a) b).q = tall_q (conj a) b n' h m k in
        elim (up_or (add_s B a b)) [
          | inl u ↦ u
          | inr (inl e) ↦ absurd (pos_nil (pos_eq O (crossed a b ∙ ap (λ z. a.p * z.q + (- a.q) * z.p) e ∙ ring_s B 1 (λ a. a.p :* :0 :+ (:- a.q) :* :0 := :0) refl a) k'))
          | inr (inr u) ↦ absurd (near (norm a) (mul_s B (conj a) b) n m' k' (subst Up (turned a b) (up_mul (conj a) (neg_s B (add_s B a b)) (wide n' h) u)))
        ]

    up_add : (a b : Pair A) → Up a → Up b → Up (add_s B a b)
    up_add a b (wide n h) (wide m k) =
        let d = under (a.q * b.q + a.q * b.q) (a.p * b.p) (search signs) (prqs a b n m k) in
        wide (pos_eq O (sum_wide a b) (search signs)) (search signs)
    up_add a b (wide n h) (tall m k) = up_mixed a b n h m k
    up_add a b (tall n h) (wide m k) = subst Up (add_s_comm B b a) (up_mixed b a m k n h)
    up_add a b (tall n h) (tall m k) =
        let d = under (a.p * b.p) (a.q * b.q + a.q * b.q) (search signs) (qspr a b n m k) in
        tall (pos_eq O (sum_tall a b) (search signs)) (search signs)

    -- ---- the two forms of the sign say the same
    to_up : (a : Pair A) → Positive a → Up a
    unfolding norm
    to_up a (neither h k z) = elim (trichotomy (norm a)) [
      | inl n ↦ elim (nn_split O h) [ inl r ↦ wide n r | inr e ↦ absurd (no_p a n e) ]
      | inr (inl e) ↦ absurd (z (irrational a.p a.q (sub_nil B (a.p * a.p) (a.q * a.q + a.q * a.q) e)))
      | inr (inr n) ↦ elim (nn_split O k) [ inl r ↦ tall n r | inr e ↦ absurd (no_q a n e) ]
    ]
    to_up a (fat h k n) = wide n h
    to_up a (thin h k n) = tall (pos_eq O (ring_s B 1 (λ a. a.q :* a.q :+ a.q :* a.q :- a.p :* a.p := :- :norm a) refl a) n) h

    of_up : (a : Pair A) → Up a → Positive a
    unfolding norm
    of_up a (wide n h) = elim (sign O a.q) [ inl k ↦ neither (nn_pos O h) k (λ z. no_p a n z.0) | inr k ↦ fat h k n ]
    of_up a (tall n h) = elim (sign O a.p) [ inl k ↦ neither k (nn_pos O h) (λ z. no_q a n z.1) | inr k ↦ thin h k (pos_eq O (ring_s B 1 (λ a. :- :norm a := a.q :* a.q :+ a.q :* a.q :- a.p :* a.p) refl a) n) ]

    pub positive_add : {a b : Pair A} → Positive a → Positive b → Positive (add_s B a b)
    positive_add {a} {b} h k = of_up (add_s B a b) (up_add a b (to_up a h) (to_up b k))

    pub positive_mul : {a b : Pair A} → Positive a → Positive b → Positive (mul_s B a b)
    positive_mul {a} {b} h k = of_up (mul_s B a b) (up_mul a b (to_up a h) (to_up b k))

    pub positive_or : (a : Pair A) → Positive a ⊎ ((a ≡ nil_s B) ⊎ Positive (neg_s B a))
    positive_or a = elim (up_or a) [ inl u ↦ inl (of_up a u) | inr (inl e) ↦ inr (inl e) | inr (inr u) ↦ inr (inr (of_up (neg_s B a) u)) ]

    pub positive_nil : ¬ (Positive (nil_s B))
    positive_nil (neither h k z) = z (refl, refl)
    positive_nil (fat h k n) = pos_nil h
    positive_nil (thin h k n) = pos_nil h

    pub positive_one : Positive (one_s B)
    positive_one = neither (nn_pos O pos_one) (nn_nil O) (λ z. pos_nil (pos_eq O z.0 pos_one))

    pub order_s : OrderLaws (ops_s B) Positive
    order_s = record { pos_one = positive_one; pos_nil = positive_nil; pos_add = positive_add; pos_mul = positive_mul; trichotomy = positive_or }
