-- What each call does to a list, as an equation between its contents before and after. `list` is the list as it is read over
-- the memory, so that the equations hold too where the indices do not fit.
use Rattle.std.proofs.Common.{◌≡◌, ℕ, ◌+◌, ◌-◌, ◌<◌, ◌≤◌, List, [], ◌∷◌, ◌++◌, length, get_or, set, Some, sym, refl, ap, ◌∙◌, subst, inl, arith, length-set}
use Rattle.std.specs.List.{slice_get}
use Rattle.std.proofs.lemmas.List.{nil_from_length}
use Rattle.std.proofs.lemmas.Option.{slice_get-get_or}
use Rattle.std.proofs.lemmas.Bool.{cond-true, and_from, le-leb}
use Rattle.std.proofs.lemmas.Bool.Decides.{nat_tests}
use Rattle.deque.specs.declared.Deque.{Deque}
use Rattle.deque.specs.Contents.{head_over, len_over, Over, ring, contents, round}
use Rattle.deque.proofs.RingOfPlaces.{At, Next, round_at, length_ring, ring_at, ring_last, ring_first, ring_write_last, ring_write_first}

module _ {X : Type 0} where
  contents_at : (d : Deque X) (s : List X) (head n : ℕ) → head ≡ head_over d (length s) → n ≡ len_over d (length s) → contents d s ≡ ring s head n
  unfolding contents
  contents_at d s head n e f = ap (λ h. ring s h (len_over d (length s))) (sym e) ∙ ap (ring s head) (sym f)

  -- a list that fits the memory
  pub contents_fits : (d : Deque X) (s : List X) → d.head ≤ length s → d.len ≤ length s → contents d s ≡ ring s d.head d.len
  contents_fits d s within few =
      let b = and_from _ _ (le-leb _ _ within) (le-leb _ _ few) in
      contents_at d s _ _ (sym (cond-true _ _ _ b)) (sym (cond-true _ _ _ b))

  -- a list of no elements holds none over every memory
  pub contents_none : (d : Deque X) (s : List X) → d.len ≡ 0 → contents d s ≡ []
  contents_none d s e = contents_at d s (head_over d (length s)) 0 refl (grind (arith, nat_tests))

  module _ (d : Deque X) (s : List X) (list : Deque X) (over : Over d (length s) list) where
    pub contents_read : contents d s ≡ ring s list.head list.len
    contents_read = contents_at d s _ _ over.head over.len

    pub read_element : (k i : ℕ) (x : X) → k < list.len → i ≡ round list.head k (length s) → x ≡ get_or s i x → Some x ≡ slice_get (contents d s) k
    read_element k i x lt at read =
        let here : At (length s) list.head k i = subst (At (length s) list.head k) (sym at) (round_at (length s) list.head k) in
        let long = length_ring s list.head list.len over.len_within in
        sym (ap (λ l. slice_get l k) contents_read
        ∙ slice_get-get_or (ring s list.head list.len) k x (omega arith)
        ∙ ap Some (ring_at s list.head list.len k i x over.head_within lt here ∙ sym read))

    module _ (after : Deque X) where
      pub pushed_back : (i : ℕ) (x : X) → list.len < length s → i ≡ round list.head list.len (length s) → after.head ≡ list.head → after.len ≡ list.len + 1
          → contents after (set s i x) ≡ contents d s ++ x ∷ []
      pushed_back i x lt at head len =
          let size = length-set s i x in
          let here : At (length s) list.head list.len i = subst (At (length s) list.head list.len) (sym at) (round_at (length s) list.head list.len) in
          let within = over.head_within in
          contents_fits after (set s i x) (omega arith) (omega arith)
          ∙ ap (λ h. ring (set s i x) h after.len) head ∙ ap (ring (set s i x) list.head) len
          ∙ ring_write_last s list.head list.len i x within lt here
          ∙ ap (λ l. l ++ x ∷ []) (sym contents_read)

      pub pushed_front : (i : ℕ) (x : X) → list.len < length s → Next (length s) i list.head → after.head ≡ i → after.len ≡ list.len + 1
          → contents after (set s i x) ≡ x ∷ contents d s
      pushed_front i x lt next head len =
          let size = length-set s i x in
          let inside : i < length s = grind (arith, next, over.head_within) in
          contents_fits after (set s i x) (omega arith) (omega arith)
          ∙ ap (λ h. ring (set s i x) h after.len) head ∙ ap (ring (set s i x) i) len
          ∙ ring_write_first s list.head list.len i x over.head_within lt next
          ∙ ap (λ l. x ∷ l) (sym contents_read)

      pub popped_back : (i : ℕ) (x : X) → (list.len ≡ 0 → ⊥) → i ≡ round list.head (list.len - 1) (length s) → x ≡ get_or s i x → after.head ≡ list.head → after.len ≡ list.len - 1
          → contents d s ≡ contents after s ++ x ∷ []
      popped_back i x some at read head len =
          let here : At (length s) list.head (list.len - 1) i = subst (At (length s) list.head (list.len - 1)) (sym at) (round_at (length s) list.head (list.len - 1)) in
          let within = over.head_within in
          let few = over.len_within in
          let up : list.len ≡ list.len - 1 + 1 = omega arith in
          contents_read ∙ ap (ring s list.head) up
          ∙ ring_last s list.head (list.len - 1) i x within (omega arith) here
          ∙ ap (λ y. ring s list.head (list.len - 1) ++ y ∷ []) (sym read)
          ∙ ap (λ l. l ++ x ∷ []) (sym (contents_fits after s (omega arith) (omega arith) ∙ ap (λ h. ring s h after.len) head ∙ ap (ring s list.head) len))

      pub popped_front : (i : ℕ) (x : X) → (list.len ≡ 0 → ⊥) → i ≡ round list.head 0 (length s) → x ≡ get_or s i x → after.head ≡ i + 1 → after.len ≡ list.len - 1
          → contents d s ≡ x ∷ contents after s
      popped_front i x some at read head len =
          let here : At (length s) list.head 0 i = subst (At (length s) list.head 0) (sym at) (round_at (length s) list.head 0) in
          let within = over.head_within in
          let few = over.len_within in
          let up : list.len ≡ list.len - 1 + 1 = omega arith in
          let inside : i < length s = grind (arith, here) in
          contents_read ∙ ap (ring s list.head) up
          ∙ ring_first s list.head (list.len - 1) i (i + 1) x within (omega arith) here (inl refl)
          ∙ ap (λ y. y ∷ ring s (i + 1) (list.len - 1)) (sym read)
          ∙ ap (λ l. x ∷ l) (sym (contents_fits after s (omega arith) (omega arith) ∙ ap (λ h. ring s h after.len) head ∙ ap (ring s (i + 1)) len))

  len_within : (d : Deque X) (size : ℕ) → len_over d size ≤ size
  len_within d size = grind (arith, nat_tests)

  -- a list never has more elements than its memory has places
  pub length_contents : (d : Deque X) (s : List X) → length (contents d s) ≤ length s
  unfolding contents
  length_contents d s = omega (arith, length_ring s (head_over d (length s)) (len_over d (length s)) (len_within d (length s)), len_within d (length s))

-- what each call on a list is proved from
pub ruleset list_equations = (nat_tests, nil_from_length, contents_none, contents_read, length_ring, read_element, pushed_back, pushed_front, popped_back, popped_front, length_contents)
