-- Rays that turn left one after the other, counted from a first ray h that lies in none of their sectors, over any ordered ring.
-- A ray that comes before another comes before all that follow (`before_on`) and lies in none of their sectors (`before_out`);
-- and if a ray lies in an earlier sector, so does the ray before it (`steps_back`).
use Rattle.std.proofs.Common.{◌≡◌, sym, refl, ap, ◌∙◌, inl, inr}
use Rattle.algebra.specs.Arithmetic.{Arithmetic, Nn}
use Rattle.algebra.specs.Plane.{Vec, ◌⊗◌}
use Rattle.algebra.proofs.RingSolver.{◌:+◌, ◌:-◌, ◌:*◌, :-◌, ◌:=◌, :0, nil_mul}
use Rattle.algebra.proofs.OrderedRing.{OrderedRing, base, pos_eq, nn_eq, nn_pos, sign', pos_cancel, nn_split, signs}
use Rattle.algebra.proofs.PlaneSolver.{◌:×◌, ring_v}

module _ (K : OrderedRing) where
  abbrev N : Arithmetic
  N = K.numbers

  open N use {carrier as A, Pos}
  open N.ops use {nil as 𝟘, add as ◌+◌, mul as ◌*◌, neg as -◌}
  open K.laws.order use {pos_nil}

  infixl 65 ◌+◌
  infixl 70 ◌*◌
  infix 75 -◌
  infix 72 ◌⋀◌
  abbrev ◌⋀◌ : Vec A → Vec A → A
  a ⋀ b = ◌⊗◌ N a b

  back : (a b : Vec A) → - (a ⋀ b) ≡ b ⋀ a
  unfolding ◌⊗◌
  back = ring_v (base K) 2 0 (λ a b. :- (a :× b) := b :× a) refl

  in_order : (h o r s : Vec A) → h ⋀ o * r ⋀ s + h ⋀ s * o ⋀ r ≡ h ⋀ r * o ⋀ s
  unfolding ◌⊗◌
  in_order = ring_v (base K) 4 0 (λ h o r s. h :× o :* r :× s :+ h :× s :* o :× r := h :× r :* o :× s) refl

  in_order' : (h u r s : Vec A) → u ⋀ h * r ⋀ s + s ⋀ h * u ⋀ r ≡ r ⋀ h * u ⋀ s
  unfolding ◌⊗◌
  in_order' = ring_v (base K) 4 0 (λ h u r s. u :× h :* r :× s :+ s :× h :* u :× r := r :× h :* u :× s) refl

  around : (h o r s : Vec A) → r ⋀ s * h ⋀ o + r ⋀ o * s ⋀ h + o ⋀ s * r ⋀ h ≡ 𝟘
  unfolding ◌⊗◌
  around = ring_v (base K) 4 0 (λ h o r s. r :× s :* h :× o :+ r :× o :* s :× h :+ o :× s :* r :× h := :0) refl

  between : (a b u w : Vec A) → a ⋀ b * u ⋀ w + a ⋀ u * w ⋀ b ≡ a ⋀ w * u ⋀ b
  unfolding ◌⊗◌
  between = ring_v (base K) 4 0 (λ a b u w. a :× b :* u :× w :+ a :× u :* w :× b := a :× w :* u :× b) refl

  -- u lies in the closed sector from r to s
  abbrev pub In : Vec A → Vec A → Vec A → Type 0
  In u r s = Nn N (r ⋀ u) × Nn N (u ⋀ s)

  -- how far a ray is from the first ray h of its fan: before the half turn, or not
  pub data Phase (h r : Vec A) : Type 0 where
    early : Pos (h ⋀ r) → Phase h r
    late : Nn N (r ⋀ h) → Phase h r

  -- u comes before r, both after h
  pub data Before (h u r : Vec A) : Type 0 where
    both_early : Pos (h ⋀ u) → Pos (h ⋀ r) → Pos (u ⋀ r) → Before h u r
    passed : Pos (h ⋀ u) → Nn N (r ⋀ h) → Before h u r
    both_late : Nn N (u ⋀ h) → Pos (r ⋀ h) → Pos (u ⋀ r) → Before h u r

  past : (h r s : Vec A) → Nn N (r ⋀ h) → ¬ (In h r s) → Pos (s ⋀ h)
  past h r s rh out = elim (sign' K (s ⋀ h)) [ inl p ↦ p | inr n ↦ absurd (out (rh, nn_eq K (back s h) n)) ]

  pub phase_on : {h r s : Vec A} → Phase h r → ¬ (In h r s) → Phase h s
  phase_on {h} {r} {s} (early p) out = elim (sign' K (h ⋀ s)) [ inl q ↦ early q | inr n ↦ late (nn_eq K (back h s) n) ]
  phase_on {h} {r} {s} (late n) out = late (nn_pos K (past h r s n out))

  pub before_next : {h r s : Vec A} → Phase h r → Pos (r ⋀ s) → ¬ (In h r s) → Before h r s
  before_next {h} {r} {s} (early p) t out = elim (sign' K (h ⋀ s)) [ inl q ↦ both_early p q t | inr n ↦ passed p (nn_eq K (back h s) n) ]
  before_next {h} {r} {s} (late n) t out = both_late n (past h r s n out) t

  pub before_on : {h u r s : Vec A} → Before h u r → Pos (r ⋀ s) → ¬ (In h r s) → Before h u s
  before_on {h} {u} {r} {s} (both_early hu hr ur) rs out = elim (sign' K (h ⋀ s)) [
    | inl hs ↦ both_early hu hs (pos_cancel K hr (pos_eq K (in_order h u r s) (search signs)))
    | inr n ↦ passed hu (nn_eq K (back h s) n)
  ]
  before_on {h} {u} {r} {s} (passed hu rh) rs out = passed hu (nn_pos K (past h r s rh out))
  before_on {h} {u} {r} {s} (both_late uh rh ur) rs out =
      let sh : Pos (s ⋀ h) = past h r s (nn_pos K rh) out in
      both_late uh sh (pos_cancel K rh (pos_eq K (in_order' h u r s) (search signs)))

  pub before_out : (h u r s : Vec A) → Before h u r → Pos (r ⋀ s) → ¬ (In h r s) → ¬ (In u r s)
  before_out h u r s (both_early hu hr ur) rs out i = i.0.not_neg (pos_eq K (sym (back r u)) ur)
  before_out h u r s (passed hu rh) rs out i =
      let sh : Pos (s ⋀ h) = past h r s rh out in
      let ru : Nn N (r ⋀ u) = i.0 in
      let us : Nn N (u ⋀ s) = i.1 in
      pos_nil (pos_eq K (around h u r s) (search signs))
  before_out h u r s (both_late uh rh ur) rs out i = i.0.not_neg (pos_eq K (sym (back r u)) ur)

  -- the sector from a to b, and a later one from u to w: if w lies in the first and a not in the second, then u lies in the first
  pub steps_back : (a b u w : Vec A) → Pos (a ⋀ b) → Pos (u ⋀ w) → ¬ (In a u w) → In w a b → In u a b
  steps_back a b u w ab uw out (aw, wb) =
      let au : Pos (a ⋀ u) = elim (sign' K (a ⋀ u)) [ inl p ↦ p | inr n ↦ absurd (out (nn_eq K (back a u) n, aw)) ] in
      let p : Pos (a ⋀ w * u ⋀ b) = pos_eq K (between a b u w) (search signs) in
      (nn_pos K au, elim (nn_split K aw) [ inl q ↦ nn_pos K (pos_cancel K q p) | inr z ↦ absurd (pos_nil (pos_eq K (ap (λ n. n * u ⋀ b) z ∙ nil_mul (base K) (u ⋀ b)) p)) ])

  -- no ray of its own later neighbour lies in a sector
  pub next_out : (a b w : Vec A) → Pos (b ⋀ w) → ¬ (In w a b)
  next_out a b w bw (aw, wb) = wb.not_neg (pos_eq K (sym (back w b)) bw)
