-- The thread of a string and its index form say the same: each can be had from the other.
-- A portal passed adds one to every index from the first on; a bend begins the indices anew.
use Rattle.std.proofs.Common.{◌≡◌, ℕ, zero, suc, pred, ◌<◌, ◌≤◌, List, [], ◌∷◌, length, get_or, sym, refl, ap, ◌∙◌, subst, arith}
use native.Mathlib.Decide.{dec_lt}
use Rattle.algebra.specs.Arithmetic.{Arithmetic}
use Rattle.algebra.specs.Plane.{Vec}
use Rattle.taut.specs.Sleeve.{Portal, end}
use Rattle.taut.specs.TautString.{Bend, Crosses, Turns, aim, portal, bend, corners, corner, Indices, TautString}
use Rattle.taut.proofs.Thread.{Thread, arrive, pass, bend_at, Taut}

module _ (N : Arithmetic) where
  open N use {carrier as A}

  aim_is : (e : Vec A) (bs : List (Bend A)) → aim N e bs ≡ get_or (corners N bs) 0 e
  aim_is e [] = refl
  aim_is e (b ∷ bs) = refl

  -- ---- from a string to its numbers
  abbrev passing : (ℕ → ℕ) → ℕ → ℕ
  passing i zero = zero
  passing i (suc k) = suc (i (suc k))

  abbrev bending : (ℕ → ℕ) → ℕ → ℕ
  bending i zero = zero
  bending i (suc k) = suc (i k)

  portal_next : (p : Portal A) (ps : List (Portal A)) (d : ℕ) → 0 < d → portal N (p ∷ ps) (suc d) ≡ portal N ps d
  portal_next p ps zero h = let z : 1 ≤ 0 = h in absurd (omega arith)
  portal_next p ps (suc d) h = refl

  pass_fits : (i : ℕ → ℕ) (n : ℕ) (bs : List (Bend A)) → i (length bs) ≤ n → passing i (length bs) ≤ suc n
  pass_fits i n [] h = omega arith
  pass_fits i n (b ∷ bs) h = omega arith

  module _ (v e : Vec A) (p : Portal A) (ps : List (Portal A)) (bs : List (Bend A)) (i : ℕ → ℕ) (c : Crosses N v (aim N e bs) p) (I : Indices N v ps e bs i) where
    pass_rises : (k : ℕ) → k < length bs → passing i k < passing i (suc k)
    pass_rises zero h = omega arith
    pass_rises (suc k) h = omega (arith, I.rises (suc k) h)

    pass_holds : (k : ℕ) → k < length bs → end (bend N bs (suc k)).side (portal N (p ∷ ps) (suc (i (suc k)))) ≡ (bend N bs (suc k)).vertex
    pass_holds k h = ap (end (bend N bs (suc k)).side) (portal_next p ps (i (suc k)) (omega (arith, I.rises k h))) ∙ I.holds k h

    pass_crossed : (k : ℕ) → k ≤ length bs → (d : ℕ) → passing i k < d → d ≤ passing i (suc k) → Crosses N (corner N v bs e k) (corner N v bs e (suc k)) (portal N (p ∷ ps) d)
    pass_crossed zero h zero lo hi = absurd (omega arith)
    pass_crossed zero h (suc zero) lo hi = subst (λ w. Crosses N v w p) (aim_is e bs) c
    pass_crossed zero h (suc (suc d)) lo hi = I.crossed zero h (suc d) (omega (arith, I.begins)) (omega arith)
    pass_crossed (suc k) h zero lo hi = absurd (omega arith)
    pass_crossed (suc k) h (suc zero) lo hi = absurd (omega arith)
    pass_crossed (suc k) h (suc (suc d)) lo hi = I.crossed (suc k) h (suc d) (omega arith) (omega arith)

    pass_indices : Indices N v (p ∷ ps) e bs (passing i)
    pass_indices = record { begins = refl; rises = pass_rises; fits = pass_fits i (length ps) bs I.fits; closes = ap suc I.closes; holds = pass_holds; crossed = pass_crossed; turned = I.turned }

  module _ (v e : Vec A) (p : Portal A) (ps : List (Portal A)) (b : Bend A) (bs : List (Bend A)) (i : ℕ → ℕ) (c : Crosses N v b.vertex.point p) (is : end b.side p ≡ b.vertex) (tu : Turns N b.side v b.vertex.point (aim N e bs)) (I : Indices N b.vertex.point ps e bs i) where
    bend_rises : (k : ℕ) → k < suc (length bs) → bending i k < bending i (suc k)
    bend_rises zero h = omega arith
    bend_rises (suc k) h = omega (arith, I.rises k (omega arith))

    bend_holds : (k : ℕ) → k < suc (length bs) → end (bend N (b ∷ bs) (suc k)).side (portal N (p ∷ ps) (suc (i k))) ≡ (bend N (b ∷ bs) (suc k)).vertex
    bend_holds zero h = ap (λ d. end b.side (portal N (p ∷ ps) (suc d))) I.begins ∙ is
    bend_holds (suc k) h = let k< : k < length bs = omega arith in ap (end (bend N bs (suc k)).side) (portal_next p ps (i (suc k)) (omega (arith, I.rises k k<))) ∙ I.holds k k<

    bend_crossed : (k : ℕ) → k ≤ suc (length bs) → (d : ℕ) → bending i k < d → d ≤ bending i (suc k) → Crosses N (corner N v (b ∷ bs) e k) (corner N v (b ∷ bs) e (suc k)) (portal N (p ∷ ps) d)
    bend_crossed zero h zero lo hi = absurd (omega arith)
    bend_crossed zero h (suc zero) lo hi = c
    bend_crossed zero h (suc (suc d)) lo hi = absurd (omega (arith, I.begins))
    bend_crossed (suc k) h zero lo hi = absurd (omega arith)
    bend_crossed (suc k) h (suc zero) lo hi = absurd (omega arith)
    bend_crossed (suc k) h (suc (suc d)) lo hi = I.crossed k (omega arith) (suc d) (omega arith) (omega arith)

    bend_turned : (k : ℕ) → k < suc (length bs) → Turns N (bend N (b ∷ bs) (suc k)).side (corner N v (b ∷ bs) e k) (corner N v (b ∷ bs) e (suc k)) (corner N v (b ∷ bs) e (suc (suc k)))
    bend_turned zero h = subst (Turns N b.side v b.vertex.point) (aim_is e bs) tu
    bend_turned (suc k) h = I.turned k (omega arith)

    bend_indices : Indices N v (p ∷ ps) e (b ∷ bs) (bending i)
    bend_indices = record { begins = refl; rises = bend_rises; fits = omega (arith, I.fits); closes = ap suc I.closes; holds = bend_holds; crossed = bend_crossed; turned = bend_turned }

  pub to_indices : {e v : Vec A} {ps : List (Portal A)} {bs : List (Bend A)} → Thread N e v ps bs → (i : ℕ → ℕ) × Indices N v ps e bs i
  to_indices arrive = (λ k. 0, record { begins = refl; rises = λ k h. absurd (omega arith); fits = omega arith; closes = refl; holds = λ k h. absurd (omega arith); crossed = λ k h d lo hi. absurd (omega arith); turned = λ k h. absurd (omega arith) })
  to_indices {e} (pass {v = v} {p = p} {ps = ps} {bs = bs} c st) = let (i, I) = to_indices st in (passing i, pass_indices v e p ps bs i c I)
  to_indices {e} (bend_at {v = v} {p = p} {ps = ps} {b = b} {bs = bs} c is tu st) = let (i, I) = to_indices st in (bending i, bend_indices v e p ps b bs i c is tu I)

  -- ---- and back
  abbrev passed : (ℕ → ℕ) → ℕ → ℕ
  passed i zero = zero
  passed i (suc k) = pred (i (suc k))

  portal_back : (p : Portal A) (ps : List (Portal A)) (d : ℕ) → 1 < d → portal N (p ∷ ps) d ≡ portal N ps (pred d)
  portal_back p ps zero h = absurd (omega arith)
  portal_back p ps (suc zero) h = absurd (omega arith)
  portal_back p ps (suc (suc d)) h = refl

  climbs : (i : ℕ → ℕ) (n : ℕ) → ((k : ℕ) → k < n → i k < i (suc k)) → (k : ℕ) → k ≤ n → k ≤ i k
  climbs i n h zero l = omega arith
  climbs i n h (suc k) l = omega (arith, climbs i n h k (omega arith), h k (omega arith))

  passed_fits : (i : ℕ → ℕ) (n : ℕ) (bs : List (Bend A)) → i (length bs) ≤ suc n → passed i (length bs) ≤ n
  passed_fits i n [] h = omega arith
  passed_fits i n (b ∷ bs) h = let g : pred (i (suc (length bs))) ≤ n = omega arith in g

  module _ (v e : Vec A) (p : Portal A) (ps : List (Portal A)) (bs : List (Bend A)) (i : ℕ → ℕ) (I : Indices N v (p ∷ ps) e bs i) (late : 0 < length bs → 1 < i 1) where
    passed_rises : (k : ℕ) → k < length bs → passed i k < passed i (suc k)
    passed_rises zero h = let g : 0 < pred (i 1) = omega (arith, late h) in g
    passed_rises (suc k) h = let g : pred (i (suc k)) < pred (i (suc (suc k))) = omega (arith, I.rises (suc k) h, I.rises k (omega arith)) in g

    above : (k : ℕ) → k < length bs → 1 < i (suc k)
    above zero h = late h
    above (suc k) h = omega (arith, climbs i (length bs) I.rises (suc (suc k)) h)

    passed_crossed : (k : ℕ) → k ≤ length bs → (d : ℕ) → passed i k < d → d ≤ passed i (suc k) → Crosses N (corner N v bs e k) (corner N v bs e (suc k)) (portal N ps d)
    passed_crossed k h zero lo hi = absurd (omega arith)
    passed_crossed zero h (suc d) lo hi = let hi' : suc d ≤ pred (i 1) = hi in I.crossed zero h (suc (suc d)) (omega (arith, I.begins)) (omega arith)
    passed_crossed (suc k) h (suc d) lo hi = let lo' : pred (i (suc k)) < suc d = lo in let hi' : suc d ≤ pred (i (suc (suc k))) = hi in I.crossed (suc k) h (suc (suc d)) (omega arith) (omega arith)

    passed_indices : Indices N v ps e bs (passed i)
    passed_indices = record {
      begins = refl;
      rises = passed_rises;
      fits = passed_fits i (length ps) bs I.fits;
      closes = ap pred I.closes;
      turned = I.turned;
      crossed = passed_crossed;
      holds = λ k h. ap (end (bend N bs (suc k)).side) (sym (portal_back p ps (i (suc k)) (above k h))) ∙ I.holds k h;
    }

  module _ (v e : Vec A) (p : Portal A) (ps : List (Portal A)) (b : Bend A) (bs : List (Bend A)) (i : ℕ → ℕ) (I : Indices N v (p ∷ ps) e (b ∷ bs) i) (now : i 1 ≡ 1) where
    bent_crossed : (k : ℕ) → k ≤ length bs → (d : ℕ) → pred (i (suc k)) < d → d ≤ pred (i (suc (suc k))) → Crosses N (corner N b.vertex.point bs e k) (corner N b.vertex.point bs e (suc k)) (portal N ps d)
    bent_crossed k h zero lo hi = absurd (omega arith)
    bent_crossed k h (suc d) lo hi = I.crossed (suc k) (omega arith) (suc (suc d)) (omega arith) (omega arith)

    bent_indices : Indices N b.vertex.point ps e bs (λ k. pred (i (suc k)))
    bent_indices = record {
      begins = ap pred now;
      rises = λ k h. omega (arith, I.rises k (omega arith), I.rises (suc k) (omega arith));
      fits = omega (arith, I.fits);
      closes = ap pred I.closes;
      turned = λ k h. I.turned (suc k) (omega arith);
      crossed = bent_crossed;
      holds = λ k h. ap (end (bend N bs (suc k)).side) (sym (portal_back p ps (i (suc (suc k))) (omega (arith, I.rises k (omega arith), I.rises (suc k) (omega arith))))) ∙ I.holds (suc k) (omega arith);
    }

  pub of_indices : (e v : Vec A) (ps : List (Portal A)) (bs : List (Bend A)) (i : ℕ → ℕ) → Indices N v ps e bs i → Thread N e v ps bs
  of_indices e v [] [] i I = arrive
  of_indices e v [] (b ∷ bs) i I = absurd (omega (arith, I.fits, climbs i (suc (length bs)) I.rises (suc (length bs)) (omega arith)))
  of_indices e v (p ∷ ps) [] i I = pass (I.crossed 0 (omega arith) 1 (omega (arith, I.begins)) (omega (arith, I.closes))) (of_indices e v ps [] (passed i) (passed_indices v e p ps [] i I (λ h. absurd (omega arith))))
  of_indices e v (p ∷ ps) (b ∷ bs) i I =
      let up : i 0 < i 1 = I.rises 0 (omega arith) in
      let c : Crosses N v b.vertex.point p = I.crossed 0 (omega arith) 1 (omega (arith, I.begins)) (omega arith) in
      elim (dec_lt 1 (i 1)) [
        | yes l ↦ pass c (of_indices e v ps (b ∷ bs) (passed i) (passed_indices v e p ps (b ∷ bs) i I (λ h. l)))
        | no n ↦
            let now : i 1 ≡ 1 = omega arith in
            bend_at c (ap (λ d. end b.side (portal N (p ∷ ps) d)) (sym now) ∙ I.holds 0 (omega arith)) (subst (Turns N b.side v b.vertex.point) (sym (aim_is e bs)) (I.turned 0 (omega arith)))
            (of_indices e b.vertex.point ps bs (λ k. pred (i (suc k))) (bent_indices v e p ps b bs i I now))
      ]

  -- ---- whole strings
  pub to_taut : {s e : Vec A} {ps : List (Portal A)} {bs : List (Bend A)} → TautString N s ps e bs → Taut N s ps e bs
  to_taut {s} {e} {ps} {bs} h = record { thread = of_indices e s ps bs h.indices.0 h.indices.1; stretched = h.stretched }

  pub of_taut : {s e : Vec A} {ps : List (Portal A)} {bs : List (Bend A)} → Taut N s ps e bs → TautString N s ps e bs
  of_taut h = record { indices = to_indices h.thread; stretched = h.stretched }
