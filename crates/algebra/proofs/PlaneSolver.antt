-- The ring solver over plane vectors, and the identities of cross products that geometry lives on.
-- `ring_v R n m f refl` is `ring` for n vectors and then m numbers.
use Rattle.std.proofs.Common.{◌≡◌, ℕ, zero, suc, ◌+◌ as ◌+ⁿ◌, List, [], ◌∷◌, refl}
use Rattle.algebra.specs.Plane.{Vec, cross, ◌⊗◌}
use Rattle.algebra.proofs.RingSolver.{CommRing, ◌:+◌, ◌:-◌, ◌:*◌, :-◌, ◌:=◌, :0, Expr, var, Eqn, Function, closed, Holds, holds, difference, none, E}
use Rattle.algebra.proofs.OrderedRing.{OrderedRing, base}

infix 72 ◌:×◌
abbrev pub ◌:×◌ : Vec Expr → Vec Expr → Expr
a :× b = cross E a b

-- functions of n vectors and then m numbers
abbrev pub FunctionV : ℕ → ℕ → Type 0
FunctionV zero m = Function m
FunctionV (suc n) m = Vec Expr → FunctionV n m

abbrev pub closed_v : (n m : ℕ) → FunctionV n m → Eqn
closed_v zero m f = closed m f
closed_v (suc n) m f = closed_v n m (f (record { x = var (suc (m +ⁿ n +ⁿ n)); y = var (m +ⁿ n +ⁿ n) }))

module _ (R : CommRing) where
  open R use {carrier as A}

  abbrev pub HoldsV : (n m : ℕ) → Eqn → List A → Type 0
  HoldsV zero m e ρ = Holds R m e ρ
  HoldsV (suc n) m e ρ = (a : Vec A) → HoldsV n m e (a.y ∷ a.x ∷ ρ)

  holds_v : (n m : ℕ) (e : Eqn) (ρ : List A) → difference e ≡ none → HoldsV n m e ρ
  holds_v zero m e ρ h = holds R m e ρ h
  holds_v (suc n) m e ρ h = λ a. holds_v n m e (a.y ∷ a.x ∷ ρ) h

  pub ring_v : (n m : ℕ) (f : FunctionV n m) → difference (closed_v n m f) ≡ none → HoldsV n m (closed_v n m f) []
  ring_v n m f h = holds_v n m (closed_v n m f) [] h

  pub same_vector : {a b : Vec A} → a.x ≡ b.x → a.y ≡ b.y → a ≡ b
  same_vector e f = λ i. record { x = e i; y = f i }

module _ (K : OrderedRing) where
  open K.numbers use {carrier as A}
  open K.numbers.ops use {nil as 𝟘, add as ◌+◌, mul as ◌*◌, neg as -◌}

  infixl 65 ◌+◌
  infixl 70 ◌*◌
  infix 75 -◌
  infix 72 ◌⋀◌
  abbrev ◌⋀◌ : Vec A → Vec A → A
  a ⋀ b = ◌⊗◌ K.numbers a b

  -- Grassmann and Plücker
  pub plucker : (a b c d : Vec A) → a ⋀ b * c ⋀ d + - (a ⋀ c * b ⋀ d) + a ⋀ d * b ⋀ c ≡ 𝟘
  unfolding ◌⊗◌
  plucker = ring_v (base K) 4 0 (λ a b c d. a :× b :* c :× d :- a :× c :* b :× d :+ a :× d :* b :× c := :0) refl

  -- Cramer, against a linear form
  pub cramer : (a b c f : Vec A) → a ⋀ b * f ⋀ c + b ⋀ c * f ⋀ a + c ⋀ a * f ⋀ b ≡ 𝟘
  unfolding ◌⊗◌
  cramer = ring_v (base K) 4 0 (λ a b c f. a :× b :* f :× c :+ b :× c :* f :× a :+ c :× a :* f :× b := :0) refl
