-- Identities of polynomials over a commutative ring are decided by computing.
-- `ring R n f refl` proves, for all values of the n unknowns of f, the equation that f writes: both sides are brought to a normal form,
-- a sorted row of signed monomials, and their difference must come out empty. It rests on the laws of a commutative ring alone.
use Rattle.std.proofs.Common.{◌≡◌, ℕ, zero, suc, Bool, true, false, cond, not, T, leb, List, [], ◌∷◌, sym, refl, ap, ◌∙◌, eqb→eq}
use mathlib.Core.Bool.{beq}
use Prim.Native.Nat.{compare, Ordering}
use lib.Dec.{compare_is_eq}
use Rattle.algebra.specs.Arithmetic.{Ops, RingLaws}

pub record CommRing : Type 1 where
  pub carrier : Type 0
  pub ops : Ops carrier
  pub laws : RingLaws ops

-- ---- expressions
infixl 65 ◌:+◌ ◌:-◌
infixl 70 ◌:*◌
infix 75 :-◌
infix 60 ◌:=◌
pub data Expr : Type 0 where
  var : ℕ → Expr
  :0 : Expr
  :1 : Expr
  ◌:+◌ : Expr → Expr → Expr
  ◌:-◌ : Expr → Expr → Expr
  ◌:*◌ : Expr → Expr → Expr
  :-◌ : Expr → Expr

pub data Eqn : Type 0 where
  ◌:=◌ : Expr → Expr → Eqn

abbrev pub E : Ops Expr
E = record { nil = :0; one = :1; add = ◌:+◌; mul = ◌:*◌; neg = :-◌ }

-- ---- normal forms: signed monomials in order; a coefficient n is the same monomial n times
pub data Poly : Type 0 where
  none : Poly
  term : Bool → List ℕ → Poly → Poly

abbrev pub then_by : Ordering → Ordering → Ordering
then_by Ordering.lt r = Ordering.lt
then_by Ordering.eq r = r
then_by Ordering.gt r = Ordering.gt

abbrev pub order : List ℕ → List ℕ → Ordering
order [] [] = Ordering.eq
order [] (y ∷ ys) = Ordering.lt
order (x ∷ xs) [] = Ordering.gt
order (x ∷ xs) (y ∷ ys) = let r = order xs ys in then_by (compare x y) r

abbrev pub insert : ℕ → List ℕ → List ℕ
insert x [] = x ∷ []
insert x (y ∷ m) = let r = insert x m in cond (leb x y) (x ∷ y ∷ m) (y ∷ r)

abbrev pub monomial : List ℕ → List ℕ → List ℕ
monomial [] n = n
monomial (x ∷ m) n = insert x (monomial m n)

abbrev pub merge : Ordering → Bool → List ℕ → Bool → List ℕ → Poly → Poly → Poly
merge Ordering.lt s m t n p r = term s m (term t n p)
merge Ordering.eq s m t n p r = cond (beq s t) (term s m (term t n p)) p
merge Ordering.gt s m t n p r = term t n r

abbrev pub include : Bool → List ℕ → Poly → Poly
include s m none = term s m none
include s m (term t n p) = let r = include s m p in merge (order m n) s m t n p r

abbrev pub scale : Bool → List ℕ → Poly → Poly → Poly
scale s m none acc = acc
scale s m (term t n q) acc = include (beq s t) (monomial m n) (scale s m q acc)

abbrev pub multiply : Bool → Poly → Poly → Poly → Poly
multiply s none q acc = acc
multiply s (term t m p) q acc = scale (beq s t) m q (multiply s p q acc)

-- the expression, with a sign, on top of what is collected
abbrev pub collect : Expr → Bool → Poly → Poly
collect (var i) s acc = include s (i ∷ []) acc
collect :0 s acc = acc
collect :1 s acc = include s [] acc
collect (a :+ b) s acc = collect a s (collect b s acc)
collect (a :- b) s acc = collect a s (collect b (not s) acc)
collect (a :* b) s acc = multiply s (collect a true none) (collect b true none) acc
collect (:- a) s acc = collect a (not s) acc

abbrev pub difference : Eqn → Poly
difference (a := b) = collect a true (collect b false none)

-- ---- functions of n expressions
abbrev pub Function : ℕ → Type 0
Function zero = Eqn
Function (suc n) = Expr → Function n

abbrev pub closed : (n : ℕ) → Function n → Eqn
closed zero e = e
closed (suc n) f = closed n (f (var n))

module _ (R : CommRing) where
  open R use {carrier as A}
  open R.ops use {nil as 𝟘, one as 𝟙, add as ◌+◌, mul as ◌*◌, neg as -◌}
  open R.laws use {add_assoc, add_comm, add_nil, add_neg, mul_assoc, mul_comm, mul_one, mul_add}

  infixl 65 ◌+◌
  infixl 70 ◌*◌
  infix 75 -◌
  abbrev pub at : List A → ℕ → A
  at [] i = 𝟘
  at (x ∷ xs) zero = x
  at (x ∷ xs) (suc i) = at xs i

  abbrev pub ev : Expr → List A → A
  ev (var i) ρ = at ρ i
  ev :0 ρ = 𝟘
  ev :1 ρ = 𝟙
  ev (a :+ b) ρ = ev a ρ + ev b ρ
  ev (a :- b) ρ = ev a ρ + - ev b ρ
  ev (a :* b) ρ = ev a ρ * ev b ρ
  ev (:- a) ρ = - ev a ρ

  -- ---- the laws that the soundness needs
  nil_add : (a : A) → 𝟘 + a ≡ a
  nil_add a = add_comm 𝟘 a ∙ add_nil a

  neg_add : (a : A) → - a + a ≡ 𝟘
  neg_add a = add_comm (- a) a ∙ add_neg a

  one_mul : (a : A) → 𝟙 * a ≡ a
  one_mul a = mul_comm 𝟙 a ∙ mul_one a

  add_left_comm : (a b c : A) → a + (b + c) ≡ b + (a + c)
  add_left_comm a b c = sym (add_assoc a b c) ∙ ap (λ x. x + c) (add_comm a b) ∙ add_assoc b a c

  mul_left_comm : (a b c : A) → a * (b * c) ≡ b * (a * c)
  mul_left_comm a b c = sym (mul_assoc a b c) ∙ ap (λ x. x * c) (mul_comm a b) ∙ mul_assoc b a c

  add_mul : (a b c : A) → (a + b) * c ≡ a * c + b * c
  add_mul a b c = mul_comm (a + b) c ∙ mul_add c a b ∙ ap (λ x. x + c * b) (mul_comm c a) ∙ ap (λ x. a * c + x) (mul_comm c b)

  neg_cancel : (a b : A) → - a + (a + b) ≡ b
  neg_cancel a b = sym (add_assoc (- a) a b) ∙ ap (λ x. x + b) (neg_add a) ∙ nil_add b

  cancel_neg : (a b : A) → a + (- a + b) ≡ b
  cancel_neg a b = sym (add_assoc a (- a) b) ∙ ap (λ x. x + b) (add_neg a) ∙ nil_add b

  pub cancel : (a b c : A) → a + b ≡ a + c → b ≡ c
  cancel a b c e = sym (neg_cancel a b) ∙ ap (λ x. - a + x) e ∙ neg_cancel a c

  pub mul_nil : (a : A) → a * 𝟘 ≡ 𝟘
  mul_nil a = cancel (a * 𝟘) (a * 𝟘) 𝟘 (sym (mul_add a 𝟘 𝟘) ∙ ap (λ x. a * x) (add_nil 𝟘) ∙ sym (add_nil (a * 𝟘)))

  pub nil_mul : (a : A) → 𝟘 * a ≡ 𝟘
  nil_mul a = mul_comm 𝟘 a ∙ mul_nil a

  pub neg_neg : (a : A) → - (- a) ≡ a
  neg_neg a = cancel (- a) (- (- a)) a (add_neg (- a) ∙ sym (neg_add a))

  pub neg_nil : - 𝟘 ≡ 𝟘
  neg_nil = sym (nil_add (- 𝟘)) ∙ add_neg 𝟘

  pub neg_sum : (a b : A) → - (a + b) ≡ - a + - b
  neg_sum a b = cancel (a + b) (- (a + b)) (- a + - b) (add_neg (a + b) ∙ sym (add_assoc a b (- a + - b) ∙ ap (λ x. a + x) (add_left_comm b (- a) (- b)) ∙ cancel_neg a (b + - b) ∙ add_neg b))

  pub mul_neg : (a b : A) → a * - b ≡ - (a * b)
  mul_neg a b = cancel (a * b) (a * - b) (- (a * b)) (sym (mul_add a b (- b)) ∙ ap (λ x. a * x) (add_neg b) ∙ mul_nil a ∙ sym (add_neg (a * b)))

  pub neg_mul : (a b : A) → - a * b ≡ - (a * b)
  neg_mul a b = mul_comm (- a) b ∙ mul_neg b a ∙ ap (λ x. - x) (mul_comm b a)

  -- ---- meaning of the normal forms
  signed : Bool → A → A
  signed true a = a
  signed false a = - a

  power : List A → List ℕ → A
  power ρ [] = 𝟙
  power ρ (i ∷ m) = at ρ i * power ρ m

  total : List A → Poly → A
  total ρ none = 𝟘
  total ρ (term s m p) = signed s (power ρ m) + total ρ p

  signed_twice : (s t : Bool) (a : A) → signed (beq s t) a ≡ signed s (signed t a)
  unfolding signed
  signed_twice true true a = refl
  signed_twice true false a = refl
  signed_twice false true a = refl
  signed_twice false false a = sym (neg_neg a)

  signed_product : (s t : Bool) (a b : A) → signed (beq s t) (a * b) ≡ signed s a * signed t b
  unfolding signed
  signed_product true true a b = refl
  signed_product true false a b = sym (mul_neg a b)
  signed_product false true a b = sym (neg_mul a b)
  signed_product false false a b = sym (neg_mul a (- b) ∙ ap (λ x. - x) (mul_neg a b) ∙ neg_neg (a * b))

  signed_sum : (s : Bool) (a b : A) → signed s (a + b) ≡ signed s a + signed s b
  unfolding signed
  signed_sum true a b = refl
  signed_sum false a b = neg_sum a b

  signed_nil : (s : Bool) → signed s 𝟘 ≡ 𝟘
  unfolding signed
  signed_nil true = refl
  signed_nil false = neg_nil

  signed_not : (s : Bool) (a : A) → signed (not s) a ≡ signed s (- a)
  unfolding signed
  signed_not true a = refl
  signed_not false a = sym (neg_neg a)

  -- ---- each step keeps the meaning
  insert_by : (ρ : List A) (x y : ℕ) (m r : List ℕ) (b : Bool) → power ρ r ≡ at ρ x * power ρ m → power ρ (cond b (x ∷ y ∷ m) (y ∷ r)) ≡ at ρ x * (at ρ y * power ρ m)
  unfolding power
  insert_by ρ x y m r true e = refl
  insert_by ρ x y m r false e = ap (λ z. at ρ y * z) e ∙ mul_left_comm (at ρ y) (at ρ x) (power ρ m)

  insert_is : (ρ : List A) (x : ℕ) (m : List ℕ) → power ρ (insert x m) ≡ at ρ x * power ρ m
  unfolding power
  insert_is ρ x [] = refl
  insert_is ρ x (y ∷ m) = insert_by ρ x y m (insert x m) (leb x y) (insert_is ρ x m)

  monomial_is : (ρ : List A) (m n : List ℕ) → power ρ (monomial m n) ≡ power ρ m * power ρ n
  unfolding power
  monomial_is ρ [] n = sym (one_mul (power ρ n))
  monomial_is ρ (x ∷ m) n = insert_is ρ x (monomial m n) ∙ ap (λ z. at ρ x * z) (monomial_is ρ m n) ∙ sym (mul_assoc (at ρ x) (power ρ m) (power ρ n))

  then_eq : (a b : Ordering) → T (compare_is_eq (then_by a b)) → T (compare_is_eq a) × T (compare_is_eq b)
  then_eq Ordering.lt b t = absurd t
  then_eq Ordering.eq b t = (tt, t)
  then_eq Ordering.gt b t = absurd t

  same_monomial : (m n : List ℕ) → T (compare_is_eq (order m n)) → m ≡ n
  same_monomial [] [] t = refl
  same_monomial [] (y ∷ n) t = absurd t
  same_monomial (x ∷ m) [] t = absurd t
  same_monomial (x ∷ m) (y ∷ n) t =
      let h : T (compare_is_eq (compare x y)) × T (compare_is_eq (order m n)) = then_eq (compare x y) (order m n) t in
      let p : x ≡ y = eqb→eq x y h.0 in
      let q : m ≡ n = same_monomial m n h.1 in
      cc

  merge_eq : (ρ : List A) (s : Bool) (m : List ℕ) (t : Bool) (n : List ℕ) (p : Poly) → m ≡ n → total ρ (cond (beq s t) (term s m (term t n p)) p) ≡ signed s (power ρ m) + (signed t (power ρ n) + total ρ p)
  unfolding total signed
  merge_eq ρ true m true n p e = refl
  merge_eq ρ true m false n p e = sym (rw e (cancel_neg (power ρ n) (total ρ p)))
  merge_eq ρ false m true n p e = sym (rw e (neg_cancel (power ρ n) (total ρ p)))
  merge_eq ρ false m false n p e = refl

  merge_is : (ρ : List A) (o : Ordering) (s : Bool) (m : List ℕ) (t : Bool) (n : List ℕ) (p r : Poly) → (T (compare_is_eq o) → m ≡ n) → total ρ r ≡ signed s (power ρ m) + total ρ p → total ρ (merge o s m t n p r) ≡ signed s (power ρ m) + (signed t (power ρ n) + total ρ p)
  unfolding total
  merge_is ρ Ordering.lt s m t n p r h e = refl
  merge_is ρ Ordering.eq s m t n p r h e = merge_eq ρ s m t n p (h tt)
  merge_is ρ Ordering.gt s m t n p r h e = ap (λ z. signed t (power ρ n) + z) e ∙ add_left_comm (signed t (power ρ n)) (signed s (power ρ m)) (total ρ p)

  include_is : (ρ : List A) (s : Bool) (m : List ℕ) (p : Poly) → total ρ (include s m p) ≡ signed s (power ρ m) + total ρ p
  unfolding total
  include_is ρ s m none = refl
  include_is ρ s m (term t n p) = merge_is ρ (order m n) s m t n p (include s m p) (same_monomial m n) (include_is ρ s m p)

  scale_is : (ρ : List A) (s : Bool) (m : List ℕ) (q acc : Poly) → total ρ (scale s m q acc) ≡ signed s (power ρ m) * total ρ q + total ρ acc
  unfolding total
  scale_is ρ s m none acc = sym (ap (λ z. z + total ρ acc) (mul_nil (signed s (power ρ m))) ∙ nil_add (total ρ acc))
  scale_is ρ s m (term t n q) acc =
      let a : A = signed s (power ρ m) in
      let b : A = signed t (power ρ n) in
      include_is ρ (beq s t) (monomial m n) (scale s m q acc)
      ∙ ap (λ z. signed (beq s t) z + total ρ (scale s m q acc)) (monomial_is ρ m n)
      ∙ ap (λ z. z + total ρ (scale s m q acc)) (signed_product s t (power ρ m) (power ρ n))
      ∙ ap (λ z. a * b + z) (scale_is ρ s m q acc)
      ∙ sym (add_assoc (a * b) (a * total ρ q) (total ρ acc))
      ∙ ap (λ z. z + total ρ acc) (sym (mul_add a b (total ρ q)))

  signed_left : (s : Bool) (a b : A) → signed s a * b ≡ signed s (a * b)
  unfolding signed
  signed_left true a b = refl
  signed_left false a b = neg_mul a b

  multiply_is : (ρ : List A) (s : Bool) (p q acc : Poly) → total ρ (multiply s p q acc) ≡ signed s (total ρ p * total ρ q) + total ρ acc
  unfolding total
  multiply_is ρ s none q acc = sym (ap (λ z. signed s z + total ρ acc) (nil_mul (total ρ q)) ∙ ap (λ z. z + total ρ acc) (signed_nil s) ∙ nil_add (total ρ acc))
  multiply_is ρ s (term t m p) q acc =
      let a : A = signed t (power ρ m) in
      let b : A = total ρ q in
      scale_is ρ (beq s t) m q (multiply s p q acc)
      ∙ ap (λ z. signed (beq s t) (power ρ m) * b + z) (multiply_is ρ s p q acc)
      ∙ ap (λ z. z * b + (signed s (total ρ p * b) + total ρ acc)) (signed_twice s t (power ρ m))
      ∙ ap (λ z. z + (signed s (total ρ p * b) + total ρ acc)) (signed_left s a b)
      ∙ sym (add_assoc (signed s (a * b)) (signed s (total ρ p * b)) (total ρ acc))
      ∙ ap (λ z. z + total ρ acc) (sym (signed_sum s (a * b) (total ρ p * b)) ∙ ap (signed s) (sym (add_mul a (total ρ p) b)))

  whole : (ρ : List A) {x y : A} → x ≡ signed true y + total ρ none → x ≡ y
  unfolding signed total
  whole ρ {x} {y} e = e ∙ add_nil y

  collect_is : (ρ : List A) (e : Expr) (s : Bool) (acc : Poly) → total ρ (collect e s acc) ≡ signed s (ev e ρ) + total ρ acc
  collect_is ρ (var i) s acc = include_is ρ s (i ∷ []) acc ∙ ap (λ z. signed s z + total ρ acc) (unfold power in (mul_one (at ρ i)))
  collect_is ρ :0 s acc = sym (ap (λ z. z + total ρ acc) (signed_nil s) ∙ nil_add (total ρ acc))
  collect_is ρ :1 s acc = unfold power in (include_is ρ s [] acc)
  collect_is ρ (a :+ b) s acc =
      collect_is ρ a s (collect b s acc)
      ∙ ap (λ z. signed s (ev a ρ) + z) (collect_is ρ b s acc)
      ∙ sym (add_assoc (signed s (ev a ρ)) (signed s (ev b ρ)) (total ρ acc))
      ∙ ap (λ z. z + total ρ acc) (sym (signed_sum s (ev a ρ) (ev b ρ)))
  collect_is ρ (a :- b) s acc =
      collect_is ρ a s (collect b (not s) acc)
      ∙ ap (λ z. signed s (ev a ρ) + z) (collect_is ρ b (not s) acc)
      ∙ ap (λ z. signed s (ev a ρ) + (z + total ρ acc)) (signed_not s (ev b ρ))
      ∙ sym (add_assoc (signed s (ev a ρ)) (signed s (- ev b ρ)) (total ρ acc))
      ∙ ap (λ z. z + total ρ acc) (sym (signed_sum s (ev a ρ) (- ev b ρ)))
  collect_is ρ (a :* b) s acc =
      multiply_is ρ s (collect a true none) (collect b true none) acc
      ∙ ap (λ z. signed s (z * total ρ (collect b true none)) + total ρ acc) (whole ρ (collect_is ρ a true none))
      ∙ ap (λ z. signed s (ev a ρ * z) + total ρ acc) (whole ρ (collect_is ρ b true none))
  collect_is ρ (:- a) s acc = collect_is ρ a (not s) acc ∙ ap (λ z. z + total ρ acc) (signed_not s (ev a ρ))

  -- ---- the solver
  abbrev pub Holds : (n : ℕ) → Eqn → List A → Type 0
  Holds zero (a := b) ρ = ev a ρ ≡ ev b ρ
  Holds (suc n) e ρ = (x : A) → Holds n e (x ∷ ρ)

  pub sound : (a b : Expr) (ρ : List A) → difference (a := b) ≡ none → ev a ρ ≡ ev b ρ
  unfolding signed total
  sound a b ρ e =
      let p : ev a ρ + (- ev b ρ + 𝟘) ≡ 𝟘 = sym (collect_is ρ a true (collect b false none) ∙ ap (λ z. ev a ρ + z) (collect_is ρ b false none)) ∙ ap (total ρ) e in
      cancel (- ev b ρ) (ev a ρ) (ev b ρ) (add_comm (- ev b ρ) (ev a ρ) ∙ ap (λ z. ev a ρ + z) (sym (add_nil (- ev b ρ))) ∙ p ∙ sym (neg_add (ev b ρ)))

  pub holds : (n : ℕ) (e : Eqn) (ρ : List A) → difference e ≡ none → Holds n e ρ
  holds zero (a := b) ρ h = sound a b ρ h
  holds (suc n) e ρ h = λ x. holds n e (x ∷ ρ) h

  -- `ring R 2 (λ a b. a :* b := b :* a) refl : (a b : A) → a * b ≡ b * a`
  pub ring : (n : ℕ) (f : Function n) → difference (closed n f) ≡ none → Holds n (closed n f) []
  ring n f h = holds n (closed n f) [] h

  pub sub_nil : (a b : A) → a + - b ≡ 𝟘 → a ≡ b
  sub_nil a b e = ring 2 (λ a b. a := a :- b :+ b) refl a b ∙ ap (λ x. x + b) e ∙ nil_add b
