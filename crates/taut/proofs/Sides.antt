-- The two sides: each side is a given one or its other, and what holds of a given one and its other holds of both.
use Rattle.std.proofs.Common.{◌≡◌, ◌⊎◌, sym, refl, subst, inl, inr}
use Rattle.taut.specs.declared.Side.{Side}
use Rattle.taut.specs.declared.Side.TheVariants.{Left, Right}
use Rattle.taut.specs.Sleeve.{other}

pub which : (s r : Side) → (r ≡ s) ⊎ (r ≡ other s)
which Left Left = inl refl
which Left Right = inr refl
which Right Left = inr refl
which Right Right = inl refl

pub side_of : (t s : Side) → s ≡ other t → (P : Side → Type 0) → P t → P (other s)
side_of Left s q P h = subst (λ r. P (other r)) (sym q) h
side_of Right s q P h = subst (λ r. P (other r)) (sym q) h

pub both : (t : Side) (P : Side → Type 0) → P t → P (other t) → (s : Side) → P s
both Left P a b Left = a
both Left P a b Right = b
both Right P a b Left = b
both Right P a b Right = a
