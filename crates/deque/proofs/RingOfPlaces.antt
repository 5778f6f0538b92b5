-- A ring of places, read from a head: element k is what stands in its place, and a write behind the last element or in front of
-- the first adds to the ring and keeps the rest.
use Rattle.std.proofs.Common.{◌≡◌, ℕ, zero, suc, ◌+◌, ◌-◌, ◌<◌, ◌≤◌, ◌≢◌, ◌⊎◌, List, [], ◌∷◌, ◌++◌, length, get_or, drop, set, sym, ap, ◌∙◌, inl, inr, add-one, arith}
use Rattle.std.proofs.lemmas.List.{same_lists, take_more, get_or-take, get_or-drop, get_or_append_left, get_or-append_right, length-take-le, length-append, length-drop, length-set, get_or-set_same, get_or-set_other, get_or_default}
use Rattle.std.proofs.lemmas.Bool.Decides.{nat_tests}
use Rattle.deque.specs.Contents.{ring, round}

-- i is the place of element k
abbrev pub At : ℕ → ℕ → ℕ → ℕ → Type 0
At size head k i = ((head + k < size) × (i ≡ head + k)) ⊎ ((size ≤ head + k) × (i + size ≡ head + k))

pub round_at : (size head k : ℕ) → At size head k (round head k size)
round_at size head k = grind (arith, nat_tests)

-- g comes next behind i
abbrev pub Next : ℕ → ℕ → ℕ → Type 0
Next size i g = (g ≡ i + 1) ⊎ ((g ≡ 0) × (i + 1 ≡ size))

module _ {X : Type 0} where
  pub length_ring : (s : List X) (head n : ℕ) → n ≤ length s → length (ring s head n) ≡ n
  length_ring s head n few =
      let enough : n ≤ length (drop head s ++ s) = simp (length-append, length-drop) (omega arith) in
      length-take-le n (drop head s ++ s) enough

  pub ring_at : (s : List X) (head n k i : ℕ) (d : X) → head ≤ length s → k < n → At (length s) head k i → get_or (ring s head n) k d ≡ get_or s i d
  ring_at s head n k i d within lt (inl (low, e)) =
      let before : k < length (drop head s) = simp length-drop (omega arith) in
      get_or-take n (drop head s ++ s) k d lt ∙ get_or_append_left (drop head s) s d k before ∙ get_or-drop head s k d ∙ ap (λ j. get_or s j d) (sym e)
  ring_at s head n k i d within lt (inr (high, e)) =
      let past : length s - head ≤ k = omega arith in
      let again : k - (length s - head) ≡ i = omega arith in
      get_or-take n (drop head s ++ s) k d lt ∙ get_or-append_right (drop head s) s (length s - head) k d (length-drop head s) past ∙ ap (λ j. get_or s j d) again

  -- a write in a place that the ring does not hold
  ring_kept : (s : List X) (head n m i : ℕ) (x : X) → head ≤ length s → n ≤ m → m < length s → At (length s) head m i → ring (set s i x) head n ≡ ring s head n
  ring_kept s head n m i x within le lt at =
      let size = length-set s i x in
      same_lists _ _
      (length_ring (set s i x) head n (omega arith) ∙ sym (length_ring s head n (omega arith)))
      (λ k d l.
      let below : k < n = omega (arith, length_ring (set s i x) head n (omega arith)) in
      let j = round head k (length s) in
      let here = round_at (length s) head k in
      let other : j ≢ i = grind (arith, here, at) in
      ring_at (set s i x) head n k j d (omega arith) below (rw length-set here)
      ∙ get_or-set_other s i j x d other
      ∙ sym (ring_at s head n k j d within below here))

  pub ring_last : (s : List X) (head n i : ℕ) (d : X) → head ≤ length s → n < length s → At (length s) head n i → ring s head (n + 1) ≡ ring s head n ++ get_or s i d ∷ []
  ring_last s head n i d within lt at =
      let more : n < length (drop head s ++ s) = simp (length-append, length-drop) (omega arith) in
      take_more (drop head s ++ s) n d more
      ∙ ap (λ y. ring s head n ++ y ∷ []) (sym (get_or-take (n + 1) (drop head s ++ s) n d (omega arith)) ∙ ring_at s head (n + 1) n i d within (omega arith) at)

  module _ (s : List X) (head n i g : ℕ) (d : X) (within : head ≤ length s) (lt : n < length s) (at : At (length s) head 0 i) (next : Next (length s) i g) where
    first_at : (k : ℕ) (e : X) → k < n + 1 → get_or (ring s head (n + 1)) k e ≡ get_or (get_or s i d ∷ ring s g n) k e
    first_at zero e l =
        let inside : i < length s = grind (arith, at) in
        ring_at s head (n + 1) 0 i e within l at ∙ get_or_default s i e d inside
    first_at (suc k) e l =
        let j = round g k (length s) in
        let here = round_at (length s) g k in
        let there : At (length s) head (suc k) j = grind (arith, here, at, next) in
        ring_at s head (n + 1) (suc k) j e within l there ∙ sym (ring_at s g n k j e (grind (arith, at, next)) (omega arith) here)

    pub ring_first : ring s head (n + 1) ≡ get_or s i d ∷ ring s g n
    ring_first =
        let long = length_ring s head (n + 1) (omega arith) in
        same_lists _ _ (long ∙ add-one n ∙ ap suc (sym (length_ring s g n (omega arith)))) (λ k e l. first_at k e (omega arith))

  pub ring_write_last : (s : List X) (head n i : ℕ) (x : X) → head ≤ length s → n < length s → At (length s) head n i → ring (set s i x) head (n + 1) ≡ ring s head n ++ x ∷ []
  ring_write_last s head n i x within lt at =
      let size = length-set s i x in
      let inside : i < length s = grind (arith, at) in
      ring_last (set s i x) head n i x (omega arith) (omega arith) (rw length-set at)
      ∙ ap (λ y. ring (set s i x) head n ++ y ∷ []) (get_or-set_same s i x x inside)
      ∙ ap (λ r. r ++ x ∷ []) (ring_kept s head n n i x within (omega arith) lt at)

  pub ring_write_first : (s : List X) (head n i : ℕ) (x : X) → head ≤ length s → n < length s → Next (length s) i head → ring (set s i x) i (n + 1) ≡ x ∷ ring s head n
  ring_write_first s head n i x within lt next =
      let size = length-set s i x in
      let inside : i < length s = grind (arith, next) in
      ring_first (set s i x) i n i head x (omega arith) (omega arith) (inl (omega arith, omega arith)) (rw length-set next)
      ∙ ap (λ y. y ∷ ring (set s i x) head n) (get_or-set_same s i x x inside)
      ∙ ap (λ r. x ∷ r) (ring_kept s head n (length s - 1) i x within (omega arith) (omega arith) (grind (arith, next)))
