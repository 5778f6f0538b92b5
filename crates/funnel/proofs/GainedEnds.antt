-- A new end on what chains hold: a corner put at the near end, and the chains seen from the other side.
use Rattle.std.proofs.Common.{◌≡◌, ℕ, ◌+◌, List, [], ◌∷◌, ◌++◌, map, reverse, sym, refl, ap, ◌∙◌, arith}
use Rattle.std.proofs.lemmas.List.{length-reverse, reverse-append, reverse-reverse, map-append, append_assoc}
use Rattle.algebra.specs.Number.{Number}
use Rattle.geometry.specs.Plane.{Point}
use Rattle.taut.specs.declared.Side.{Side}
use Rattle.taut.specs.declared.Side.TheVariants.{Left, Right}
use Rattle.taut.specs.Sleeve.{other}
use Rattle.taut.specs.Funnel.{Funnel, push, flip}
use Rattle.funnel.specs.declared.Corner.{Corner}
use Rattle.funnel.specs.Corners.{vertex_meant}
use Rattle.funnel.specs.Ends.{seen}
use Rattle.funnel.specs.declared.Working.{Working}
use Rattle.funnel.specs.Chains.{SameRoom, meant, Holds, Flips, Nears, Gains}

seen_other : {X : Type 0} (t : Side) (l : List X) → seen (other t) l ≡ reverse (seen t l)
seen_other Left l = refl
seen_other Right l = sym (reverse-reverse l)

map_reverse : {X Y : Type 0} (g : X → Y) (l : List X) → map g (reverse l) ≡ reverse (map g l)
map_reverse g [] = refl
map_reverse g (x ∷ xs) =
    ap (map g) (reverse-append (x ∷ []) xs) ∙ map-append g (reverse xs) (x ∷ []) ∙ ap (λ l. l ++ g x ∷ []) (map_reverse g xs) ∙ sym (reverse-append (g x ∷ []) (map g xs))

module _ {P : Type 0} (at : P → Point) (e : Point) (t : Side) (l bends : List (Corner P)) (near far n : ℕ) (f : Funnel Number) (h : Holds at e (seen t l) near far bends n f) where
  pub put_near : (l' : List (Corner P)) (c : Corner P) (near' : ℕ) → seen t l' ≡ c ∷ seen t l → near' ≡ near + 1 → Holds at e (seen t l') near' far bends (n + 1) (push (vertex_meant at c) f)
  put_near l' c near' put more = record {
    nears = c ∷ h.nears;
    apex = h.apex;
    fars = h.fars;
    parts = put ∙ ap (λ r. c ∷ r) h.parts;
    near_count = omega (arith, h.near_count, more);
    far_count = h.far_count;
    top = h.top;
    is = ap (push (vertex_meant at c)) h.is;
    few = omega (arith, h.few, more);
  }

  pub flipped : (near' far' : ℕ) → near' ≡ far → far' ≡ near → Holds at e (seen (other t) l) near' far' bends n (flip f)
  flipped near' far' to_near to_far = record {
    nears = reverse h.fars;
    apex = h.apex;
    fars = reverse h.nears;
    parts = seen_other t l ∙ ap reverse h.parts ∙ reverse-append h.nears (h.apex ∷ h.fars)
        ∙ ap (λ r. r ++ reverse h.nears) (reverse-append (h.apex ∷ []) h.fars) ∙ append_assoc (reverse h.fars) (h.apex ∷ []) (reverse h.nears);
    near_count = omega (arith, to_near, h.far_count, length-reverse h.fars);
    far_count = omega (arith, to_far, h.near_count, length-reverse h.nears);
    top = h.top;
    is = (λ i. record { near = map_reverse (vertex_meant at) h.fars i; final = (meant at [] bends []).final; far = map_reverse (vertex_meant at) h.nears i }) ∙ ap flip h.is;
    few = omega (arith, h.few, to_near, to_far);
  }

abbrev number : Side → ℕ
number Left = 0
number Right = 1

module _ {P : Type 0} (at : P → Point) where
  pub gained_left : (t : Side) → t ≡ Left → (c : Corner P) (d d' : Working P) → Nears at t c d d' → Gains at t c d d'
  gained_left Left is c d d' nears = nears
  gained_left Right is c d d' nears =
      let no : 1 ≡ 0 = ap number is in
      absurd (omega (arith, no))

  pub gained_right : (t : Side) → t ≡ Right → (c : Corner P) (d d₁ d₂ d₃ : Working P) → SameRoom d d₁
      → Flips at d d₁ → Nears at t c d₁ d₂ → Flips at d₂ d₃ → Gains at t c d d₃
  gained_right Right is c d d₁ d₂ d₃ same turn nears back =
      λ e n f room fits h. back e Right (n + 1) _ (nears e n (flip f) (omega (arith, room, same.0)) (omega (arith, fits, same.1)) (turn e Left n f h))
  gained_right Left is c d d₁ d₂ d₃ same turn nears back =
      let no : 0 ≡ 1 = ap number is in
      absurd (omega (arith, no))
