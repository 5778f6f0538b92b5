-- What the function `settle` of specs/Funnel does, as a relation that proofs can follow. A new end y on side t drops corners of the near chain while they do not turn strictly
-- to side t on the way from y (`Trims`); if none is left, it cuts the far chain at the corners that stand strictly in its way (`Cuts`). Chains are read here from the portal's end to the apex.
use Rattle.std.proofs.Common.{◌≡◌, Bool, true, false, cond, List, [], ◌∷◌, ◌++◌, reverse, sym, refl, ap, ◌∙◌, subst}
use mathlib.Core.List.{reverse-cons}
use Rattle.algebra.specs.Arithmetic.{Arithmetic, Nn}
use Rattle.algebra.specs.Plane.{Vec, ◌⊗◌, ◌⟶◌ as ◌⇢◌}
use Rattle.algebra.proofs.RingSolver.{neg_neg, neg_nil}
use Rattle.algebra.proofs.OrderedRing.{OrderedRing, base, pos_eq, nn_eq, nn_pos, nn_nil}
use Rattle.algebra.specs.declared.Sign.{Sign}
use Rattle.algebra.specs.declared.Sign.TheVariants.{Plus, Zero, Minus}
use Rattle.taut.specs.declared.Side.{Side}
use Rattle.taut.specs.declared.Side.TheVariants.{Left, Right}
use Rattle.taut.specs.Sleeve.{other, Vertex, veer}
use Rattle.taut.specs.TautString.{Bend, Turns, aim}
use Rattle.taut.specs.Funnel.{is_turn, Funnel, Says, Signs, next, bears, advance, settle}
use Rattle.taut.proofs.Veer.{back, from_head}

module _ (K : OrderedRing) where
  abbrev N : Arithmetic
  N = K.numbers

  open N use {carrier as A, Pos}
  open N.ops use {neg as -◌}

  infix 75 -◌
  infix 73 ◌⟶◌
  abbrev ◌⟶◌ : Vec A → Vec A → Vec A
  v ⟶ w = ◌⇢◌ N v w

  abbrev pub Straight : Side → Vec A → Vec A → Vec A → Type 0
  Straight t y c w = Nn N (- (veer N t (y ⟶ c) (c ⟶ w)))

  module _ (e : Vec A) (t : Side) (y : Vec A) where
    -- what is left of the near chain
    pub data Trims (fb : List (Bend A)) : List (Vertex A) → List (Vertex A) → Type 0 where
      none_left : Trims fb [] []
      stops_at : {c : Vertex A} {cs : List (Vertex A)} → Turns N t y c.point (next N e cs fb) → Trims fb (c ∷ cs) (c ∷ cs)
      dropped : {c : Vertex A} {cs ks : List (Vertex A)} → Straight t y c.point (next N e cs fb) → Trims fb cs ks → Trims fb (c ∷ cs) ks

    -- what is left of the far chain on side t, and the final bends then
    pub data Cuts (fb : List (Bend A)) : List (Vertex A) → List (Bend A) → List (Vertex A) → Type 0 where
      no_chain : Cuts fb [] fb []
      passed : {d : Vertex A} {ds : List (Vertex A)} {fb' : List (Bend A)} → Cuts fb ds fb' [] → Turns N t y d.point (aim N e fb') → Cuts fb (d ∷ ds) (record { side = t; vertex = d } ∷ fb') []
      halts : {d : Vertex A} {ds : List (Vertex A)} {fb' : List (Bend A)} → Cuts fb ds fb' [] → Straight t y d.point (aim N e fb') → Cuts fb (d ∷ ds) fb' (d ∷ [])
      stands : {d k : Vertex A} {ds ks : List (Vertex A)} {fb' : List (Bend A)} → Cuts fb ds fb' (k ∷ ks) → Cuts fb (d ∷ ds) fb' (d ∷ k ∷ ks)

  pub data Settled (e : Vec A) (t : Side) (y : Vec A) (fb : List (Bend A)) : List (Vertex A) → List (Vertex A) → List (Vertex A) → List (Bend A) → List (Vertex A) → Type 0 where
    hooks_on : {near far ks : List (Vertex A)} {c : Vertex A} → Trims e t y fb near (c ∷ ks) → Settled e t y fb near far (c ∷ ks) fb far
    looks : {near far far' : List (Vertex A)} {fb' : List (Bend A)} → Trims e t y fb near [] → Cuts e (other t) y fb far fb' far' → Settled e t y fb near far [] fb' far'

  pop_on : (e : Vec A) (t : Side) (y : Vec A) (fb fb' : List (Bend A)) (c : Vertex A) (near far near' far' : List (Vertex A)) → Straight t y c.point (next N e near fb) → Settled e t y fb near far near' fb' far' → Settled e t y fb (c ∷ near) far near' fb' far'
  pop_on e t y fb fb' c near far near' far' un (hooks_on tr) = hooks_on (dropped un tr)
  pop_on e t y fb fb' c near far near' far' un (looks tr cu) = looks (dropped un tr) cu

  -- ---- from the apex on
  more : (e : Vec A) (t : Side) (y : Vec A) (fb : List (Bend A)) (z : Vertex A) {ds rem : List (Vertex A)} {fb' : List (Bend A)} → Turns N t y z.point (aim N e fb) → Cuts e t y (record { side = t; vertex = z } ∷ fb) ds fb' rem → Cuts e t y fb (ds ++ (z ∷ [])) fb' rem
  more e t y fb z tu no_chain = passed no_chain tu
  more e t y fb z tu (passed c tv) = passed (more e t y fb z tu c) tv
  more e t y fb z tu (halts c un) = halts (more e t y fb z tu c) un
  more e t y fb z tu (stands c) = stands (more e t y fb z tu c)

  all_stand : (e : Vec A) (t : Side) (y : Vec A) (fb : List (Bend A)) (z : Vertex A) (ds : List (Vertex A)) → Straight t y z.point (aim N e fb) → Cuts e t y fb (ds ++ (z ∷ [])) fb (ds ++ (z ∷ []))
  all_stand e t y fb z [] un = halts no_chain un
  all_stand e t y fb z (d ∷ []) un = stands (halts no_chain un)
  all_stand e t y fb z (d ∷ k ∷ ds) un = stands (all_stand e t y fb z (k ∷ ds) un)

  -- ---- the test
  signed : Side → A → A
  signed Left a = a
  signed Right a = - a

  by_sign : (t : Side) (s : Sign) (a : A) (P : Bool → Type 0) → Says N s a → (Pos (signed t a) → P true) → (Nn N (- (signed t a)) → P false) → P (is_turn t s)
  unfolding signed
  by_sign Left Plus a P h so else' = so h
  by_sign Left Zero a P h so else' = else' (nn_eq K (sym (neg_nil (base K)) ∙ ap -◌ (sym h)) (nn_nil K))
  by_sign Left Minus a P h so else' = else' (nn_pos K h)
  by_sign Right Plus a P h so else' = else' (nn_eq K (sym (neg_neg (base K) a)) (nn_pos K h))
  by_sign Right Zero a P h so else' = else' (nn_eq K (sym (neg_neg (base K) a)) (nn_eq K (sym h) (nn_nil K)))
  by_sign Right Minus a P h so else' = so h

  signed_is : (t : Side) (y c w : Vec A) → signed t (◌⊗◌ N (y ⟶ c) (y ⟶ w)) ≡ veer N t (y ⟶ c) (c ⟶ w)
  unfolding signed
  signed_is Left y c w = from_head K Left y c w
  signed_is Right y c w = back K Left (y ⟶ c) (y ⟶ w) ∙ from_head K Right y c w

  module _ (sign : A → Sign) (law : Signs N sign) where
    tested : (t : Side) (y c w : Vec A) (P : Bool → Type 0) → (Turns N t y c w → P true) → (Straight t y c w → P false) → P (bears N sign t y c w)
    unfolding ◌⊗◌ ◌⇢◌
    tested t y c w P so else' =
        let a : A = ◌⊗◌ N (y ⟶ c) (y ⟶ w) in
        by_sign t (sign a) a P (law a) (λ h. so (pos_eq K (signed_is t y c w) h)) (λ h. else' (nn_eq K (ap -◌ (signed_is t y c w)) h))

    module _ (e : Vec A) (t : Side) (y : Vec A) where
      abbrev Advanced : List (Bend A) → List (Vertex A) → Funnel A → Type 0
      Advanced fb far g = (g.near ≡ []) × Cuts e (other t) y fb far g.final (reverse g.far)

      advances : (fb : List (Bend A)) (zs : List (Vertex A)) → Advanced fb (reverse zs) (advance N sign e t y fb zs)
      advances fb [] = (refl, no_chain)
      advances fb (z ∷ zs) =
          let fb₁ : List (Bend A) = record { side = other t; vertex = z } ∷ fb in
          let on : Advanced fb₁ (reverse zs) (advance N sign e t y fb₁ zs) = advances fb₁ zs in
          subst (λ ds. Advanced fb ds (advance N sign e t y fb (z ∷ zs))) (sym (reverse-cons z zs))
          (tested (other t) y z.point (aim N e fb) (λ b. Advanced fb (reverse zs ++ (z ∷ [])) (cond b (advance N sign e t y fb₁ zs) (record { near = []; final = fb; far = z ∷ zs })))
          (λ tu. (on.0, more e (other t) y fb z tu on.1))
          (λ un. (refl, subst (λ ds. Cuts e (other t) y fb (reverse zs ++ (z ∷ [])) fb ds) (sym (reverse-cons z zs)) (all_stand e (other t) y fb z (reverse zs) un))))

      abbrev Goes : List (Bend A) → List (Vertex A) → List (Vertex A) → Funnel A → Type 0
      Goes fb near far g = Settled e t y fb near far g.near g.final (reverse g.far)

      pub settles : (near : List (Vertex A)) (fb : List (Bend A)) (zs : List (Vertex A)) → Goes fb near (reverse zs) (settle N sign e t y near fb zs)
      settles [] fb zs =
          let on : Advanced fb (reverse zs) (advance N sign e t y fb zs) = advances fb zs in
          subst (λ ns. Settled e t y fb [] (reverse zs) ns (advance N sign e t y fb zs).final (reverse (advance N sign e t y fb zs).far)) (sym on.0) (looks none_left on.1)
      settles (c ∷ cs) fb zs =
          let g : Funnel A = settle N sign e t y cs fb zs in
          let on : Goes fb cs (reverse zs) g = settles cs fb zs in
          tested t y c.point (next N e cs fb) (λ b. Goes fb (c ∷ cs) (reverse zs) (cond b (record { near = c ∷ cs; final = fb; far = zs }) g))
          (λ tu. hooks_on (stops_at tu))
          (λ un. pop_on e t y fb g.final c cs (reverse zs) g.near (reverse g.far) un on)
