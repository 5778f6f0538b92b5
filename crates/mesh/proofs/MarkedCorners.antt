-- Marking a corner marks it and leaves the other marks; where it was not marked before, fewer corners are left unmarked.
use Rattle.std.proofs.Common.{◌≡◌, ℕ, zero, suc, ◌+◌, ◌<◌, Bool, true, false, ◌⊎◌, List, [], ◌∷◌, length, get_or, set, replicate, sym, refl, ap, ◌∙◌, subst, inl, inr, arith, get_or-set_other, get_or-set_same}
use Rattle.std.proofs.lemmas.Bool.Decides.{eqb_tells}
use Rattle.base.specs.declared.ids.HalfEdgeId.{HalfEdgeId}
use Rattle.base.specs.Ids.{half_edge}
use Rattle.mesh.specs.Stages.{Marked}

abbrev pub unmarked : List Bool → ℕ
unmarked [] = 0
unmarked (true ∷ m) = unmarked m
unmarked (false ∷ m) = 1 + unmarked m

pub none_marked : (n : ℕ) (x : HalfEdgeId) → Marked (replicate n false) x → ⊥
none_marked n x k = blank n x.0 k
  where
    blank : (n i : ℕ) → get_or (replicate n false) i false ≡ true → ⊥
    blank zero i k = let z : ◌≡◌ {A = ℕ} 0 1 = cc in omega arith
    blank (suc n) zero k = let z : ◌≡◌ {A = ℕ} 0 1 = cc in omega arith
    blank (suc n) (suc i) k = blank n i k

pub fewer : (m : List Bool) (i : ℕ) → i < length m → (get_or m i false ≡ true → ⊥) → unmarked (set m i true) < unmarked m
fewer [] i h u = absurd (omega arith)
fewer (true ∷ m) zero h u = absurd (u refl)
fewer (false ∷ m) zero h u = omega arith
fewer (true ∷ m) (suc i) h u = fewer m i (omega arith) u
fewer (false ∷ m) (suc i) h u = let s : unmarked (set m i true) < unmarked m = fewer m i (omega arith) u in omega arith

module _ (m : List Bool) (d : HalfEdgeId) (room : d.0 < length m) where
  pub mark_this : Marked (set m d.0 true) d
  mark_this = get_or-set_same m d.0 true false room

  pub mark_old : (x : HalfEdgeId) → Marked m x → Marked (set m d.0 true) x
  mark_old x k =
      elim (eqb_tells x.0 d.0) [
        | inl same ↦ subst (λ i. get_or (set m d.0 true) i false ≡ true) (sym same.1) mark_this
        | inr other ↦ get_or-set_other m d.0 x.0 true false other.1 ∙ k
      ]

  pub mark_which : (x : HalfEdgeId) → Marked (set m d.0 true) x → (x ≡ d) ⊎ Marked m x
  mark_which x k =
      elim (eqb_tells x.0 d.0) [
        | inl same ↦ inl (ap half_edge same.1)
        | inr other ↦ inr (sym (get_or-set_other m d.0 x.0 true false other.1) ∙ k)
      ]
