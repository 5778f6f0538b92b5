-- Two verdicts on the same lists are the same.
use Rattle.std.proofs.Common.{◌≡◌, ℕ, ◌-◌, ◌<◌, ◌≤◌, ◌⊎◌, [], ◌∷◌, get_or, Ok, Err, sym, refl, ap, ◌∙◌, inl, inr, arith}
use Rattle.base.specs.declared.refusals.Refusal.{Refusal}
use Rattle.base.specs.declared.refusals.Refusal.TheVariants.{MeshLimits, VertexRange, CornerRange, TriangleTurn, TwinMismatch, ClosedFan, FullTurn}
use Rattle.base.specs.Ids.{triangle, vertex, half_edge}
use Rattle.base.specs.Refusals.{number, place}
use Rattle.mesh.specs.Lists.{Lists, listed}
use Rattle.mesh.specs.Verdict.{Fails, limits, range, corner, turn, twin, fan, span, Accepted, Refused, VerdictsAgree}

-- the refusal of lists by its number and place
numbered : Lists → ℕ → ℕ → Refusal
numbered l n p =
    get_or (MeshLimits ∷ VertexRange (vertex p) ∷ CornerRange (half_edge p) ∷ TriangleTurn (triangle p) ∷ TwinMismatch (half_edge p)
    ∷ ClosedFan (half_edge p) ((listed l).corner (half_edge p)) ∷ FullTurn (half_edge p) ((listed l).corner (half_edge p)) ∷ []) (n - 1) MeshLimits

is_numbered : (l : Lists) {e : Refusal} → Fails l e → e ≡ numbered l (number e) (place e)
unfolding numbered
is_numbered l (limits n) = refl
is_numbered l (range v h n) = refl
is_numbered l (corner h w n) = refl
is_numbered l (turn t w n) = refl
is_numbered l (twin h w n) = refl
is_numbered l (fan h w n) = refl
is_numbered l (span h w n) = refl

-- what is accepted is not refused
sound_fails : (l : Lists) {e : Refusal} → Accepted l → Fails l e → ⊥
sound_fails l a (limits n) = n a.limits
sound_fails l a (range v h n) = n (a.ranges v h)
sound_fails l a (corner h w n) = n (a.sound.corners h w)
sound_fails l a (turn t w n) = n (a.sound.turns t w)
sound_fails l a (twin h w n) = n (a.sound.twins h w)
sound_fails l a (fan h w n) = n (a.sound.fans h w)
sound_fails l a (span h w n) = n (a.sound.spans h w)

level : (a b p q : ℕ) → (a < b) ⊎ ((a ≡ b) × (p ≤ q)) → (b < a) ⊎ ((b ≡ a) × (q ≤ p)) → (a ≡ b) × (p ≡ q)
level a b p q (inl x) (inl y) = absurd (omega arith)
level a b p q (inl x) (inr y) = absurd (omega (arith, y.0))
level a b p q (inr x) (inl y) = absurd (omega (arith, x.0))
level a b p q (inr x) (inr y) = (x.0, omega (arith, x.1, y.1))

pub one_refusal : (l : Lists) (d e : Refusal) → Refused l d → Refused l e → d ≡ e
one_refusal l d e a b =
    let same = level (number d) (number e) (place d) (place e) (a.first e b.fails) (b.first d a.fails) in
    is_numbered l a.fails ∙ ap (λ n. numbered l n (place d)) same.0 ∙ ap (λ p. numbered l (number e) p) same.1 ∙ sym (is_numbered l b.fails)

pub verdicts_agree : VerdictsAgree
verdicts_agree l (Ok x) (Ok y) a b = refl
verdicts_agree l (Ok x) (Err e) a b = absurd (sound_fails l a b.fails)
verdicts_agree l (Err d) (Ok y) a b = absurd (sound_fails l b a.fails)
verdicts_agree l (Err d) (Err e) a b = ap Err (one_refusal l d e a b)
