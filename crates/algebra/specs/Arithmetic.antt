-- Ops               zero, one, sum, product and opposite of numbers of some kind
-- RingLaws          the laws of a commutative ring
-- OrderLaws         the laws of an order that fits the ring, said by its positive numbers
-- Arithmetic        numbers with their operations, and which of them are positive
-- OrderedRingLaws   both sets of laws together
-- Nn                a number is not negative
-- Nothing is assumed: the laws are proved of each kind of number that is used.
use Rattle.std.specs.Prelude.{◌≡◌, ◌⊎◌}

pub record Ops (A : Type 0) : Type 0 where
  pub nil : A
  pub one : A
  pub add : A → A → A
  pub mul : A → A → A
  pub neg : A → A

pub record RingLaws {A : Type 0} (O : Ops A) : Type 0 where
  pub add_assoc : (a b c : A) → O.add (O.add a b) c ≡ O.add a (O.add b c)
  pub add_comm : (a b : A) → O.add a b ≡ O.add b a
  pub add_nil : (a : A) → O.add a O.nil ≡ a
  pub add_neg : (a : A) → O.add a (O.neg a) ≡ O.nil
  pub mul_assoc : (a b c : A) → O.mul (O.mul a b) c ≡ O.mul a (O.mul b c)
  pub mul_comm : (a b : A) → O.mul a b ≡ O.mul b a
  pub mul_one : (a : A) → O.mul a O.one ≡ a
  pub mul_add : (a b c : A) → O.mul a (O.add b c) ≡ O.add (O.mul a b) (O.mul a c)

pub record OrderLaws {A : Type 0} (O : Ops A) (Pos : A → Type 0) : Type 0 where
  pub pos_one : Pos O.one
  pub pos_nil : ¬ (Pos O.nil)
  pub pos_add : {a b : A} → Pos a → Pos b → Pos (O.add a b)
  pub pos_mul : {a b : A} → Pos a → Pos b → Pos (O.mul a b)
  pub trichotomy : (a : A) → Pos a ⊎ ((a ≡ O.nil) ⊎ Pos (O.neg a))

pub record Arithmetic : Type 1 where
  pub carrier : Type 0
  pub ops : Ops carrier
  pub Pos : carrier → Type 0

pub record OrderedRingLaws (N : Arithmetic) : Type 0 where
  pub ring : RingLaws N.ops
  pub order : OrderLaws N.ops N.Pos

pub record Nn (N : Arithmetic) (a : N.carrier) : Type 0 where
  pub not_neg : ¬ (N.Pos (N.ops.neg a))
