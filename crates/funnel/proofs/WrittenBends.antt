-- The bends that a funnel leaves, written one by one: what stands in the output when the first k are written.
use Rattle.std.proofs.Common.{◌≡◌, ℕ, zero, suc, ◌+◌, ◌<◌, ◌≤◌, List, [], ◌∷◌, ◌++◌, length, take, drop, set, Some, None, sym, ap, ◌∙◌, subst, add-one, arith}
use lib.Seq.{take-append_seam}
use Rattle.std.proofs.lemmas.List.{take_all}
use Rattle.std.proofs.lemmas.Slice.{drop-append-drop}
use Rattle.std.specs.List.{slice_get}
use Rattle.funnel.specs.declared.Bend.{Bend}
use Rattle.funnel.specs.Strings.{Written}
use Rattle.funnel.proofs.FromTheRight.{held, none_there}

pub put_next : {X : Type 0} (bs o : List X) (k : ℕ) (x : X) → Some x ≡ slice_get bs k → k < length o → set (take k bs ++ drop k o) k x ≡ take (suc k) bs ++ drop (suc k) o
put_next bs [] k x e lt = absurd (omega arith)
put_next [] (y ∷ o) k x e lt =
    let no : 1 ≡ 0 = ap held e in
    absurd (omega (arith, no))
put_next (b ∷ bs) (y ∷ o) zero x e lt =
    let same : x ≡ b = cc in
    ap (λ v. v ∷ o) same
put_next (b ∷ bs) (y ∷ o) (suc k) x e lt = ap (λ l. b ∷ l) (put_next bs o k x e (omega arith))

-- the first k bends are written, and nothing else
pub record Partly (bs out : List Bend) (k : ℕ) (now : List Bend) : Type 0 where
  pub is : now ≡ take k bs ++ drop k out
  pub within : k ≤ length bs

some_there : {X : Type 0} (l : List X) (k : ℕ) (x : X) → Some x ≡ slice_get l k → k < length l
some_there [] k x e =
    let no : 1 ≡ 0 = ap held e in
    absurd (omega (arith, no))
some_there (y ∷ l) zero x e = omega arith
some_there (y ∷ l) (suc k) x e = omega (arith, some_there l k x e)

module _ (bs out now : List Bend) (k : ℕ) (h : Partly bs out k now) where
  pub one_written : (b : Bend) → Some b ≡ slice_get bs k → k < length out → Partly bs out (k + 1) (set now k b)
  one_written b next room =
      subst (λ j. Partly bs out j (set now k b)) (sym (add-one k)) (record { is = ap (λ l. set l k b) h.is ∙ put_next bs out k b next room; within = omega (arith, some_there bs k b next) })

  pub all_written : length bs ≤ k → Written bs k out now
  all_written few =
      let all : take k bs ≡ bs = take_all k bs few in
      let is : now ≡ bs ++ drop k out = h.is ∙ ap (λ l. l ++ drop k out) all in
      let count : k ≡ length bs = omega (arith, h.within) in
      record {
        front = ap (take k) is ∙ ap (λ j. take j (bs ++ drop k out)) count ∙ take-append_seam bs (drop k out);
        behind = ap (drop k) is ∙ drop-append-drop k out bs k (omega arith) (sym count);
        count = count;
      }

  pub none_left : (same : List Bend) → same ≡ now → None ≡ slice_get bs k → Written bs k out same
  none_left same kept none = subst (Written bs k out) (sym kept) (all_written (none_there bs k none))
