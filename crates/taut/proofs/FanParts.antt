-- Parts of a fan. Rays that sweep and of which the first does not come round again do so from each of their rays on (`clears`).
-- So a fan without its first ray is a fan, and so is its front part; it is one read from its other end, for the other side;
-- and it is one if its first or its last ray is moved inward.
use Rattle.std.proofs.Common.{◌≡◌, List, [], ◌∷◌, ◌++◌, reverse, sym, ap, ◌∙◌, inl, inr}
use mathlib.Core.List.{reverse_aux}
use Rattle.algebra.specs.Arithmetic.{Arithmetic, Nn}
use Rattle.algebra.specs.Plane.{Vec}
use Rattle.algebra.proofs.RingSolver.{neg_nil}
use Rattle.algebra.proofs.OrderedRing.{OrderedRing, base, pos_eq, nn_eq, nn_pos, nn_nil, nn_split, sign', pos_cancel, nn_cancel, signs}
use Rattle.taut.specs.declared.Side.{Side}
use Rattle.taut.specs.Sleeve.{other, veer}
use Rattle.taut.specs.Fan.{Sweeps, Sector, Clear, Within, Fan}
use Rattle.taut.proofs.Veer.{swap, back, self, in_order, in_order', pluecker}
use Rattle.taut.proofs.Along.{along_nn, along_both}
use Rattle.taut.proofs.FanLemma.{first}

module _ (K : OrderedRing) (t : Side) where
  abbrev N : Arithmetic
  N = K.numbers

  open N use {carrier as A, Pos}
  open N.ops use {nil as 𝟘}
  open K.laws.order use {pos_nil}

  infix 72 ◌⋀◌
  abbrev ◌⋀◌ : Vec A → Vec A → A
  a ⋀ b = veer N t a b

  zero_back : (a b : Vec A) → a ⋀ b ≡ 𝟘 → b ⋀ a ≡ 𝟘
  zero_back a b h = sym (back K t a b) ∙ ap N.ops.neg h ∙ neg_nil (base K)

  clear_of : (u r : Vec A) (rs : List (Vec A)) → (Within N t u r rs → ⊥) → Clear N t u r rs
  clear_of u r [] f = tt
  clear_of u r (s ∷ rs) f = (λ i. f (inl i), clear_of u s rs (λ w. f (inr w)))

  -- each ray is in no later sector
  abbrev pub Clears : Vec A → List (Vec A) → Type 0
  Clears r [] = Unit {0}
  Clears r (s ∷ rs) = Clear N t r s rs × Clears s rs

  -- the ray after one that is past the half turn is strictly past it
  past : (h r s : Vec A) → Nn N (r ⋀ h) → ¬ (Sector N t h r s) → Pos (s ⋀ h)
  past h r s rh cl = elim (sign' K (s ⋀ h)) [ inl p ↦ p | inr n ↦ absurd (cl (rh, nn_eq K (back K t s h) n)) ]

  second⁺ : (h u r : Vec A) (rs : List (Vec A)) → Pos (h ⋀ u) → Nn N (r ⋀ h) → Sweeps N t r rs → Clear N t h r rs → Within N t u r rs → ⊥
  second⁺ h u r [] hu rh sw cl w = elim w [ ]
  second⁺ h u r (s ∷ rs) hu rh sw cl (inl i) =
      let rs' : Pos (r ⋀ s) = sw.0 in
      let sh : Pos (s ⋀ h) = past h r s rh cl.0 in
      let ru : Nn N (r ⋀ u) = i.0 in
      let us : Nn N (u ⋀ s) = i.1 in
      pos_nil (pos_eq K (pluecker K t r h s u) (search signs))
  second⁺ h u r (s ∷ rs) hu rh sw cl (inr w) = second⁺ h u s rs hu (nn_pos K (past h r s rh cl.0)) sw.1 cl.1 w

  third : (h u r : Vec A) (rs : List (Vec A)) → Nn N (u ⋀ h) → Pos (u ⋀ r) → Pos (r ⋀ h) → Sweeps N t r rs → Clear N t h r rs → Within N t u r rs → ⊥
  third h u r [] uh ur rh sw cl w = elim w [ ]
  third h u r (s ∷ rs) uh ur rh sw cl (inl i) = i.0.not_neg (pos_eq K (sym (back K t r u)) ur)
  third h u r (s ∷ rs) uh ur rh sw cl (inr w) =
      let rs' : Pos (r ⋀ s) = sw.0 in
      let sh : Pos (s ⋀ h) = past h r s (nn_pos K rh) cl.0 in
      third h u s rs uh (pos_cancel K rh (pos_eq K (in_order' K t h u r s) (search signs))) sh sw.1 cl.1 w

  clears₂ : (h u : Vec A) (rs : List (Vec A)) → Nn N (u ⋀ h) → Sweeps N t u rs → Clear N t h u rs → Clears u rs
  clears₂ h u [] uh sw cl = tt
  clears₂ h u (s ∷ rs) uh sw cl =
      let sh : Pos (s ⋀ h) = past h u s uh cl.0 in
      (clear_of u s rs (third h u s rs uh sw.0 sh sw.1 cl.1), clears₂ h s rs (nn_pos K sh) sw.1 cl.1)

  -- rays u, rs turn one way after h, and h is in none of their sectors: no ray is in a later sector
  pub clears : (h u : Vec A) (rs : List (Vec A)) → Pos (h ⋀ u) → Sweeps N t u rs → Clear N t h u rs → Clears u rs
  clears h u [] hu sw cl = tt
  clears h u (s ∷ rs) hu sw cl = elim (sign' K (h ⋀ s)) [
    | inl hs ↦ (clear_of u s rs (first K t h u s rs hs sw.0 (nn_pos K hu) sw.1 cl.1), clears h s rs hs sw.1 cl.1)
    | inr n ↦ (clear_of u s rs (second⁺ h u s rs hu (nn_eq K (back K t h s) n) sw.1 cl.1), clears₂ h s rs (nn_eq K (back K t h s) n) sw.1 cl.1)
  ]

  -- ---- a part of a fan is a fan
  clear_front : (h r : Vec A) (rs zs : List (Vec A)) → Clear N t h r (rs ++ zs) → Clear N t h r rs
  clear_front h r [] zs cl = tt
  clear_front h r (s ∷ rs) zs cl = (cl.0, clear_front h s rs zs cl.1)

  sweeps_front : (r : Vec A) (rs zs : List (Vec A)) → Sweeps N t r (rs ++ zs) → Sweeps N t r rs
  sweeps_front r [] zs sw = tt
  sweeps_front r (s ∷ rs) zs sw = (sw.0, sweeps_front s rs zs sw.1)

  pub fan_front : (rs zs : List (Vec A)) → Fan N t (rs ++ zs) → Fan N t rs
  fan_front [] zs f = tt
  fan_front (h ∷ []) zs f = tt
  fan_front (h ∷ r ∷ rs) zs f = (sweeps_front h (r ∷ rs) zs f.0, clear_front h r rs zs f.1)

  pub fan_tail : (h : Vec A) (rs : List (Vec A)) → Fan N t (h ∷ rs) → Fan N t rs
  fan_tail h [] f = tt
  fan_tail h (r ∷ []) f = tt
  fan_tail h (r ∷ s ∷ rs) f = (f.0.1, (clears h r (s ∷ rs) f.0.0 f.0.1 f.1).0)

  pub fan_part : (xs ys zs : List (Vec A)) → Fan N t (xs ++ (ys ++ zs)) → Fan N t ys
  fan_part [] ys zs f = fan_front ys zs f
  fan_part (x ∷ xs) ys zs f = fan_part xs ys zs (fan_tail x (xs ++ (ys ++ zs)) f)

  -- ---- a ray moved inward
  pub fan_first : (h h' r : Vec A) (rs : List (Vec A)) → Fan N t (h ∷ r ∷ rs) → Sector N t h' h r → Pos (h' ⋀ r) → Fan N t (h' ∷ r ∷ rs)
  fan_first h h' r rs f i hr = ((hr, f.0.1), clear_of h' r rs (first K t h h' r rs f.0.0 hr i.0 f.0.1 f.1))

  sweeps_last : (r x l l' : Vec A) (rs : List (Vec A)) → Sweeps N t r (rs ++ (x ∷ l ∷ [])) → Pos (x ⋀ l') → Sweeps N t r (rs ++ (x ∷ l' ∷ []))
  sweeps_last r x l l' [] sw xl = (sw.0, (xl, tt))
  sweeps_last r x l l' (s ∷ rs) sw xl = (sw.0, sweeps_last s x l l' rs sw.1 xl)

  last_sector : (h x l l' : Vec A) → Pos (x ⋀ l) → Sector N t l' x l → Pos (x ⋀ l') → Sector N t h x l' → Sector N t h x l
  last_sector h x l l' xl i xl' j =
      let xh : Nn N (x ⋀ h) = j.0 in
      let hl' : Nn N (h ⋀ l') = j.1 in
      let l'l : Nn N (l' ⋀ l) = i.1 in
      (xh, nn_cancel K xl' (nn_eq K (in_order K t x h l' l) (search signs)))

  clear_last : (h r x l l' : Vec A) (rs : List (Vec A)) → Clear N t h r (rs ++ (x ∷ l ∷ [])) → Pos (x ⋀ l) → Sector N t l' x l → Pos (x ⋀ l') → Clear N t h r (rs ++ (x ∷ l' ∷ []))
  clear_last h r x l l' [] cl xl i xl' = (cl.0, (λ j. cl.1.0 (last_sector h x l l' xl i xl' j), tt))
  clear_last h r x l l' (s ∷ rs) cl xl i xl' = (cl.0, clear_last h s x l l' rs cl.1 xl i xl')

  last_turn : (r x l : Vec A) (rs : List (Vec A)) → Sweeps N t r (rs ++ (x ∷ l ∷ [])) → Pos (x ⋀ l)
  last_turn r x l [] sw = sw.1.0
  last_turn r x l (s ∷ rs) sw = last_turn s x l rs sw.1

  pub fan_last : (rs : List (Vec A)) (x l l' : Vec A) → Fan N t (rs ++ (x ∷ l ∷ [])) → Sector N t l' x l → Pos (x ⋀ l') → Fan N t (rs ++ (x ∷ l' ∷ []))
  fan_last [] x l l' f i xl' = ((xl', tt), tt)
  fan_last (h ∷ []) x l l' f i xl' = ((f.0.0, (xl', tt)), (λ j. f.1.0 (last_sector h x l l' f.0.1.0 i xl' j), tt))
  fan_last (h ∷ r ∷ rs) x l l' f i xl' = (sweeps_last h x l l' (r ∷ rs) f.0 xl', clear_last h r x l l' rs f.1 (last_turn h x l (r ∷ rs) f.0) i xl')

  -- ---- read from the other end
  abbrev final : Vec A → List (Vec A) → Vec A
  final r [] = r
  final r (s ∷ rs) = final s rs

  final_within : (r s : Vec A) (rs : List (Vec A)) → Sweeps N t r (s ∷ rs) → Within N t (final s rs) r (s ∷ rs)
  final_within r s [] sw = inl (nn_pos K sw.0, nn_eq K (sym (self K t s)) (nn_nil K))
  final_within r s (q ∷ rs) sw = inr (final_within s q rs sw.1)

  pub out_of : (u r : Vec A) (rs : List (Vec A)) → Clear N t u r rs → Within N t u r rs → ⊥
  out_of u r [] cl w = elim w [ ]
  out_of u r (s ∷ rs) cl (inl i) = cl.0 i
  out_of u r (s ∷ rs) cl (inr w) = out_of u s rs cl.1 w

  -- d lies along u, and h strictly before both: where u is, d is
  pub same_way : (h u d r : Vec A) (rs : List (Vec A)) → Pos (h ⋀ u) → Pos (h ⋀ d) → u ⋀ d ≡ 𝟘 → Within N t u r rs → Within N t d r rs
  same_way h u d r [] hu hd e w = elim w [ ]
  same_way h u d r (s ∷ rs) hu hd e (inl i) =
      let du : veer N (other t) u d ≡ 𝟘 = swap K t u d ∙ zero_back u d e in
      let uh : Pos (veer N (other t) u h) = pos_eq K (sym (swap K t u h)) hu in
      let dh : Pos (veer N (other t) d h) = pos_eq K (sym (swap K t d h)) hd in
      inl (nn_eq K (swap K t d r) (along_nn K (other t) (other t) u h d r du uh dh (nn_eq K (sym (swap K t u r)) i.0)), along_nn K (other t) t u h d s du uh dh i.1)
  same_way h u d r (s ∷ rs) hu hd e (inr w) = inr (same_way h u d s rs hu hd e w)

  final_turn : (r s : Vec A) (rs : List (Vec A)) → Sweeps N t r (s ∷ rs) → (x : Vec A) × Pos (x ⋀ final s rs)
  final_turn r s [] sw = (r, sw.0)
  final_turn r s (q ∷ rs) sw = final_turn s q rs sw.1

  -- the last ray is not in the first sector
  final_out : (h r s : Vec A) (rs : List (Vec A)) → Fan N t (h ∷ r ∷ s ∷ rs) → Sector N t (final s rs) h r → ⊥
  final_out h r s rs f i =
      let l : Vec A = final s rs in
      let hr : Pos (h ⋀ r) = f.0.0 in
      elim (nn_split K i.1) [
        | inl lr ↦ first K t h l r (s ∷ rs) hr lr i.0 f.0.1 f.1 (final_within r s rs f.0.1)
        | inr e ↦ elim (nn_split K i.0) [
          | inl hl ↦ again h r s rs hl f e
          | inr z ↦ let x : (x : Vec A) × Pos (x ⋀ l) = final_turn r s rs f.0.1 in pos_nil (pos_eq K (along_both K t h r l x.0 hr z e) x.1)
        ]
      ]
    where
      again : (h r s : Vec A) (rs : List (Vec A)) → Pos (h ⋀ final s rs) → Fan N t (h ∷ r ∷ s ∷ rs) → final s rs ⋀ r ≡ 𝟘 → ⊥
      again h r s [] hl f e = pos_nil (pos_eq K (zero_back s r e) f.0.1.0)
      again h r s (q ∷ rs) hl f e = out_of r s (q ∷ rs) (clears h r (s ∷ q ∷ rs) f.0.0 f.0.1 f.1).0 (same_way h (final q rs) r s (q ∷ rs) hl f.0.0 e (final_within s q rs f.0.1.1))

  -- acc holds the rays before h, from h back
  turned : (h r : Vec A) (acc rs : List (Vec A)) → Sweeps N (other t) h acc → Fan N t (h ∷ r ∷ rs) → Clear N (other t) (final r rs) h acc → Fan N (other t) (reverse_aux (r ∷ rs) (h ∷ acc))
  turned h r acc [] sw f cl = ((pos_eq K (sym (swap K t r h)) f.0.0, sw), cl)
  turned h r acc (s ∷ rs) sw f cl =
      turned r s (h ∷ acc) rs (pos_eq K (sym (swap K t r h)) f.0.0, sw) (fan_tail h (r ∷ s ∷ rs) f)
      (λ i. final_out h r s rs f (nn_eq K (swap K t (final s rs) h) i.1, nn_eq K (swap K t r (final s rs)) i.0), cl)

  pub fan_reverse : (rs : List (Vec A)) → Fan N t rs → Fan N (other t) (reverse rs)
  fan_reverse [] f = tt
  fan_reverse (h ∷ []) f = tt
  fan_reverse (h ∷ r ∷ rs) f = turned h r [] rs tt f tt
