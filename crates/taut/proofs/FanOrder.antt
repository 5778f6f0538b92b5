-- The order of directions in a fan. A direction that lies in one sector of a fan lies in no sector after the next (`once`).
-- So a direction, its opposite and the direction again are not met in order (`not_again`): the opposite lies at least one sector further.
-- It rests on the fan lemma, and on the bound for every ray (FanParts).
use Rattle.std.proofs.Common.{◌≡◌, List, [], ◌∷◌, inl, inr}
use Rattle.algebra.specs.Arithmetic.{Arithmetic}
use Rattle.algebra.specs.Plane.{Vec}
use Rattle.algebra.proofs.OrderedRing.{OrderedRing, nn_split}
use Rattle.taut.specs.declared.Side.{Side}
use Rattle.taut.specs.Sleeve.{veer}
use Rattle.taut.specs.Fan.{Sector, Within, Met, Fan, origin}
use Rattle.taut.proofs.Along.{along_both, axes}
use Rattle.taut.proofs.FanLemma.{first}
use Rattle.taut.proofs.FanParts.{fan_tail, out_of, same_way}

module _ (K : OrderedRing) (t : Side) where
  abbrev N : Arithmetic
  N = K.numbers

  open N use {carrier as A, Pos}

  infix 72 ◌⋀◌
  abbrev ◌⋀◌ : Vec A → Vec A → A
  a ⋀ b = veer N t a b

  pub once : (u h r s : Vec A) (rs : List (Vec A)) → ¬ (u ≡ origin N) → Fan N t (h ∷ r ∷ s ∷ rs) → Sector N t u h r → Within N t u s rs → ⊥
  once u h r s rs ne f i w =
      let hr : Pos (h ⋀ r) = f.0.0 in
      elim (nn_split K i.1) [
        | inl ur ↦ first K t h u r (s ∷ rs) hr ur i.0 f.0.1 f.1 (inr w)
        | inr e ↦ elim (nn_split K i.0) [
          | inl hu ↦ out_of K t r s rs (fan_tail K t h (r ∷ s ∷ rs) f).1 (same_way K t h u r s rs hu hr e w)
          | inr z ↦ ne (axes K t u (λ x. along_both K t h r u x hr z e))
        ]
      ]

  met_one : (u r : Vec A) (rs : List (Vec A)) → Met N t (u ∷ []) r rs → Within N t u r rs
  met_one u r [] m = m
  met_one u r (s ∷ rs) (inl i) = inl i.0
  met_one u r (s ∷ rs) (inr m) = inr (met_one u s rs m)

  met_two : (w u r s : Vec A) (rs : List (Vec A)) → Met N t (w ∷ u ∷ []) r (s ∷ rs) → Within N t u s rs
  met_two w u r s rs (inl i) = met_one u s rs i.1
  met_two w u r s [] (inr m) = elim m [ ]
  met_two w u r s (q ∷ rs) (inr m) = inr (met_two w u s q rs m)

  -- the direction w may be any between: at the least it takes a sector of its own
  pub not_again : (u w h : Vec A) (rs : List (Vec A)) → ¬ (u ≡ origin N) → Fan N t (h ∷ rs) → Met N t (u ∷ w ∷ u ∷ []) h rs → ⊥
  not_again u w h [] ne f m = elim m [ ]
  not_again u w h (r ∷ []) ne f (inl i) = absurd i.1
  not_again u w h (r ∷ s ∷ rs) ne f (inl i) = once u h r s rs ne f i.0 (met_two w u r s rs i.1)
  not_again u w h (r ∷ rs) ne f (inr m) = not_again u w r rs ne (fan_tail K t h (r ∷ rs) f) m
