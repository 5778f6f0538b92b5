-- Shortness. Every path through the portals of a sleeve measures, under every gauge, at least D times what the taut string measures.
-- From a place on a portal, with a form that is best on the string's present piece, the rest of the path measures at least what the form says up to the piece's end,
-- and the string after it (`After`). A portal that is passed adds one step; at a bend the form is changed there or one portal later, by the switching lemma.
-- It rests on the conditions of a taut string and on the triangles between portals; the fan bound is not used.
use Rattle.std.proofs.Common.{◌≡◌, ℕ, ◌-◌ as ◌∸◌, ◌≤◌, T, List, [], ◌∷◌, ◌++◌, sym, refl, ap, ◌∙◌, subst, inl, inr}
use Rattle.algebra.specs.Arithmetic.{Ops, Arithmetic, Nn}
use Rattle.algebra.specs.Plane.{Vec, plus, less, times, dot, ◌⊗◌, ◌⟶◌ as ◌⇢◌, ◌⊙◌}
use Rattle.algebra.proofs.RingSolver.{CommRing, :0, ◌:+◌, ◌:-◌, ◌:*◌, :-◌, ◌:=◌, E, ring}
use Rattle.algebra.proofs.OrderedRing.{OrderedRing, base, nn_eq, nn_pos, sign, nn_add, nn_mul}
use Rattle.algebra.proofs.PlaneSolver.{◌:×◌, ring_v, same_vector}
use Rattle.taut.specs.declared.Side.{Side}
use Rattle.taut.specs.declared.Side.TheVariants.{Left, Right}
use Rattle.taut.specs.Sleeve.{other, Portal, end, veer, Ahead, Sleeve}
use Rattle.taut.specs.TautString.{Bend, Crosses, Turns, aim, corners, TautString}
use Rattle.taut.specs.Lengths.{Among, Gauge, along, whole, times_over, place, Marks, places}
use Rattle.taut.proofs.Portals.{keeps, front_from}
use Rattle.taut.proofs.Thread.{Thread, arrive, pass, bend_at, crossing, arrives, Onward, onward_next, onward_of}
use Rattle.taut.proofs.IndexForm.{to_taut}
use Rattle.taut.proofs.SwitchingLemma.{here, later}
use Rattle.taut.proofs.Wholes.{whole_nn, whole_less}

-- D times the place that divides the line from a to b as k to D − k, over any operations
module _ {A : Type 0} (O : Ops A) where
  abbrev mixed : A → A → Vec A → Vec A → Vec A
  mixed D k a b = plus O (times O (O.add D (O.neg k)) a) (times O k b)

module _ (N : Arithmetic) where
  open N use {carrier as A}

  mix : A → A → Vec A → Vec A → Vec A
  mix D k a b = mixed N.ops D k a b

  scaled : A → Vec A → Vec A
  scaled D a = times N.ops D a

module _ (K : OrderedRing) where
  abbrev N : Arithmetic
  N = K.numbers

  abbrev R : CommRing
  R = base K

  open N use {carrier as A, Pos}
  open N.ops use {nil as 𝟘, add as ◌+◌, mul as ◌*◌, neg as -◌}
  open K.laws.order use {pos_nil}

  infixl 65 ◌+◌ ◌-◌
  infixl 70 ◌*◌
  infix 75 -◌
  infix 73 ◌⟶◌
  infix 72 ◌·◌
  abbrev ◌-◌ : A → A → A
  a - b = a + - b

  abbrev ◌⟶◌ : Vec A → Vec A → Vec A
  v ⟶ w = ◌⇢◌ N v w

  abbrev ◌·◌ : Vec A → Vec A → A
  f · v = ◌⊙◌ N f v

  -- ---- paths: a place on each portal, D times over
  data Path (D : A) : List (Portal A) → Type 0 where
    stop : Path D []
    through : {p : Portal A} {ps : List (Portal A)} (j : A) → Nn N j → Nn N (D - j) → Path D ps → Path D (p ∷ ps)

  abbrev spot : A → Portal A → A → Vec A
  spot D p j = mix N D j p.left.point p.right.point

  -- ---- the facts of algebra
  step : (x y w f : Vec A) (m T D r : A) → m - f · (x ⟶ y) + (T - (f · (y ⟶ scaled N D w) + D * r)) ≡ m + T - (f · (x ⟶ scaled N D w) + D * r)
  unfolding ◌⊙◌ ◌⇢◌ scaled
  step = ring_v R 4 4 (λ x y w f m T D r. m :- dot E f (less E y x) :+ (T :- (dot E f (less E (times E D w) y) :+ D :* r)) := m :+ T :- (dot E f (less E (times E D w) x) :+ D :* r)) refl

  switch : (w w' z f f' : Vec A) (k T D r : A) → T - (f' · (mix N D k w z ⟶ scaled N D w') + D * r) + k * (f · (w ⟶ z) - f' · (w ⟶ z)) ≡ T - (f · (mix N D k w z ⟶ scaled N D w) + D * (f' · (w ⟶ w') + r))
  unfolding ◌⊙◌ ◌⇢◌ scaled mix
  switch = ring_v R 5 4 (λ w u z f g k T D r. T :- (dot E g (less E (times E D u) (mixed E D k w z)) :+ D :* r) :+ k :* (dot E f (less E z w) :- dot E g (less E z w)) := T :- (dot E f (less E (times E D w) (mixed E D k w z)) :+ D :* (dot E g (less E u w) :+ r))) refl

  start : (s w f : Vec A) (T D r : A) → T - (f · (scaled N D s ⟶ scaled N D w) + D * r) ≡ T - D * (f · (s ⟶ w) + r)
  unfolding ◌⊙◌ ◌⇢◌ scaled
  start = ring_v R 3 3 (λ s w f T D r. T :- (dot E f (less E (times E D w) (times E D s)) :+ D :* r) := T :- D :* (dot E f (less E w s) :+ r)) refl

  -- the part of a place's weight that lies across from the end on that side
  share : Side → A → A → A
  share Left D j = j
  share Right D j = D - j

  share_nn : (t : Side) {D j : A} → Nn N j → Nn N (D - j) → Nn N (share t D j)
  unfolding share
  share_nn Left h k = h
  share_nn Right h k = k

  placed : (t : Side) (D j : A) (p : Portal A) → mix N D (share t D j) (end t p).point (end (other t) p).point ≡ spot D p j
  unfolding mix share
  placed Left D j p = refl
  placed Right D j p = same_vector R
      (ring R 4 (λ D j a b. (D :- (D :- j)) :* b :+ (D :- j) :* a := (D :- j) :* a :+ j :* b) refl D j p.left.point.x p.right.point.x)
      (ring R 4 (λ D j a b. (D :- (D :- j)) :* b :+ (D :- j) :* a := (D :- j) :* a :+ j :* b) refl D j p.left.point.y p.right.point.y)

  -- the end across, seen from the start and from the end of a piece that ends at one end
  across : (t : Side) (v w z : Vec A) → Nn N (veer N (other t) (v ⟶ w) (v ⟶ z)) → Nn N (veer N t (w ⟶ z) (v ⟶ w))
  unfolding ◌⊗◌ ◌⇢◌
  across Left v w z h = nn_eq K (ring_v R 3 0 (λ v w z. less E z v :× less E w v := less E z w :× less E w v) refl v w z) h
  across Right v w z h = nn_eq K (ring_v R 3 0 (λ v w z. less E w v :× less E z v := less E w v :× less E z w) refl v w z) h

  ahead : (t : Side) (v w z : Vec A) → Nn N (veer N (other t) (v ⟶ w) (v ⟶ z)) → Nn N (veer N t (v ⟶ z) (v ⟶ w))
  ahead Left v w z h = h
  ahead Right v w z h = h

  module _ (fs : List (Vec A)) (measure : Vec A → A) (G : Gauge N fs measure) (D : A) (e : Vec A) where
    abbrev Form : Vec A → Type 0
    Form f = Among N f fs

    above : (f : Vec A) → Form f → (v : Vec A) → Nn N (measure v - f · v)
    unfolding ◌⊙◌
    above f F v = (G v).above f F

    best : Vec A → Vec A
    best v = (G v).form

    is_form : (v : Vec A) → Form (best v)
    unfolding best
    is_form v = (G v).among

    reached : (v : Vec A) → best v · v ≡ measure v
    unfolding best ◌⊙◌
    reached v = (G v).attained

    -- what the steps of a path from x measure together
    abbrev tour : {ps : List (Portal A)} → Path D ps → Vec A → A
    tour stop x = measure (x ⟶ scaled N D e)
    tour (through {p = p} j _ _ path) x = measure (x ⟶ spot D p j) + tour path (spot D p j)

    -- what the pieces of a string measure after its first
    abbrev rest : List (Bend A) → A
    rest [] = 𝟘
    rest (b ∷ bs) = measure (b.vertex.point ⟶ aim N e bs) + rest bs

    -- what is to be shown: a path from x is at least as long as form f says up to w, and the string after that
    Least : A → Vec A → Vec A → Vec A → A → Type 0
    Least T f w x r = Nn N (T - (f · (x ⟶ scaled N D w) + D * r))

    on : (x y w f : Vec A) (T r : A) → Form f → Least T f w y r → Least (measure (x ⟶ y) + T) f w x r
    unfolding Least
    on x y w f T r F h = nn_eq K (step x y w f (measure (x ⟶ y)) T D r) (nn_add K (above f F (x ⟶ y)) h)

    change : (t : Side) (p : Portal A) (j : A) (w w' f f' : Vec A) (T r : A) → Nn N j → Nn N (D - j) → (end t p).point ≡ w → f' · (w ⟶ w') ≡ measure (w ⟶ w')
        → Nn N (f · (w ⟶ (end (other t) p).point) - f' · (w ⟶ (end (other t) p).point)) → Least T f' w' (spot D p j) r → Least T f w (spot D p j) (measure (w ⟶ w') + r)
    unfolding Least
    change t p j w w' f f' T r j0 j1 is re psi h =
        let z : Vec A = (end (other t) p).point in
        let k : A = share t D j in
        let y : mix N D k w z ≡ spot D p j = ap (λ u. mix N D k u z) (sym is) ∙ placed t D j p in
        let b : Nn N (T - (f' · (mix N D k w z ⟶ scaled N D w') + D * r)) = subst (λ u. Nn N (T - (f' · (u ⟶ scaled N D w') + D * r))) (sym y) h in
        subst (λ u. Nn N (T - (f · (u ⟶ scaled N D w) + D * (measure (w ⟶ w') + r)))) y
        (subst (λ m. Nn N (T - (f · (mix N D k w z ⟶ scaled N D w) + D * (m + r)))) re
        (nn_eq K (switch w w' z f f' k T D r) (nn_add K b (nn_mul K (share_nn t j0 j1) psi))))

    -- from a place on the first portal, with a form that is best for the string's present piece
    After : Vec A → List (Portal A) → List (Bend A) → Type 0
    After v [] bs = Unit {0}
    After v (p ∷ ps) bs = (path : Path D ps) (j : A) → Nn N j → Nn N (D - j) → (f : Vec A) → Form f → f · (v ⟶ aim N e bs) ≡ measure (v ⟶ aim N e bs) → Least (tour path (spot D p j)) f (aim N e bs) (spot D p j) (rest bs)

    reach : {v : Vec A} {ps : List (Portal A)} {bs : List (Bend A)} → Thread N e v ps bs → After v ps bs → (path : Path D ps) (x f : Vec A) → Form f → f · (v ⟶ aim N e bs) ≡ measure (v ⟶ aim N e bs) → Least (tour path x) f (aim N e bs) x (rest bs)
    unfolding After Least
    reach arrive af stop x f F re = nn_eq K (ring R 3 (λ m n D. m :- n := m :- (n :+ D :* :0)) refl (measure (x ⟶ scaled N D e)) (f · (x ⟶ scaled N D e)) D) (above f F (x ⟶ scaled N D e))
    reach (pass {p = p} {bs = bs} c st) af (through j h k path) x f F re = on x (spot D p j) (aim N e bs) f (tour path (spot D p j)) (rest bs) F (af path j h k f F re)
    reach (bend_at {p = p} {b = b} {bs = bs} c is tu st) af (through j h k path) x f F re = on x (spot D p j) b.vertex.point f (tour path (spot D p j)) (rest (b ∷ bs)) F (af path j h k f F re)

    module _ (v : Vec A) (p : Portal A) (b : Bend A) (bs : List (Bend A)) (f : Vec A) (F : Form f) (re : f · (v ⟶ b.vertex.point) ≡ measure (v ⟶ b.vertex.point))
        (c : Crosses N v b.vertex.point p) (is : end b.side p ≡ b.vertex) (tu : Turns N b.side v b.vertex.point (aim N e bs)) where
      abbrev t : Side
      t = b.side

      abbrev w : Vec A
      w = b.vertex.point

      abbrev w' : Vec A
      w' = aim N e bs

      abbrev f' : Vec A
      f' = best (w ⟶ w')

      abbrev d : Vec A
      d = w ⟶ (end (other t) p).point

      fa : Nn N (f · (v ⟶ w) - f' · (v ⟶ w))
      fa = subst (λ m. Nn N (m - f' · (v ⟶ w))) (sym re) (above f' (is_form (w ⟶ w')) (v ⟶ w))

      fc : Nn N (f' · (w ⟶ w') - f · (w ⟶ w'))
      fc = subst (λ m. Nn N (m - f · (w ⟶ w'))) (sym (reached (w ⟶ w'))) (above f F (w ⟶ w'))

      da : Nn N (veer N t d (v ⟶ w))
      da = across t v w (end (other t) p).point (c (other t))

      -- after a bend: go over to the next form at once, or at the next portal
      bent : (ps : List (Portal A)) → Thread N e w ps bs → Ahead N e p ps → After w ps bs → (path : Path D ps) (j : A) → Nn N j → Nn N (D - j) → Least (tour path (spot D p j)) f w (spot D p j) (rest (b ∷ bs))
      unfolding After
      bent [] st ah af path j j0 j1 =
          let dc : Nn N (veer N t d (w ⟶ w')) = subst (λ u. Nn N (veer N t d (w ⟶ u))) (sym (arrives N st)) (nn_pos K (front_from K t p w e (ap (λ m. m.point) is) ah)) in
          change t p j w w' f f' (tour path (spot D p j)) (rest bs) j0 j1 (ap (λ m. m.point) is) (reached (w ⟶ w')) (here K t (v ⟶ w) (w ⟶ w') f f' tu fa fc d da dc)
          (reach st af path (spot D p j) f' (is_form (w ⟶ w')) (reached (w ⟶ w')))
      bent (q ∷ ps) st ah af (through i i0 i1 path) j j0 j1 =
          let z : Vec A = spot D q i in
          let e' : Vec A = w ⟶ (end (other t) q).point in
          let ec : Nn N (veer N t e' (w ⟶ w')) = ahead t w w' (end (other t) q).point (crossing N st (other t)) in
          elim (sign K (f · d - f' · d)) [
            | inl fd ↦ change t p j w w' f f' (measure (spot D p j ⟶ z) + tour path z) (rest bs) j0 j1 (ap (λ m. m.point) is) (reached (w ⟶ w')) fd
                (reach st af (through i i0 i1 path) (spot D p j) f' (is_form (w ⟶ w')) (reached (w ⟶ w')))
            | inr fd ↦ elim (keeps K t p q ah.0) [
              | inl k ↦ on (spot D p j) z w f (tour path z) (rest (b ∷ bs)) F (change t q i w w' f f' (tour path z) (rest bs) i0 i1 (ap (λ m. m.point) (k.0 ∙ is)) (reached (w ⟶ w'))
                  (later K t (v ⟶ w) (w ⟶ w') f f' tu fa fc d e' da (front_from K t p w (end (other t) q).point (ap (λ m. m.point) is) k.1) ec fd)
                  (af path i i0 i1 f' (is_form (w ⟶ w')) (reached (w ⟶ w'))))
              | inr k ↦ absurd ((here K t (v ⟶ w) (w ⟶ w') f f' tu fa fc d da (subst (λ m. Nn N (veer N t (w ⟶ m.point) (w ⟶ w'))) k.0 ec)).not_neg fd)
            ]
          ]

    after : {v : Vec A} {ps : List (Portal A)} {bs : List (Bend A)} → Thread N e v ps bs → Onward N e ps → After v ps bs
    unfolding After
    after arrive h = tt
    after (pass {p = p} {ps = ps} c st) h = λ path j j0 j1 f F re. reach st (after st (onward_next N e p ps h)) path (spot D p j) f F re
    after (bend_at {v = v} {p = p} {ps = ps} {b = b} {bs = bs} c is tu st) h = λ path j j0 j1 f F re. bent v p b bs f F re c is tu ps st h (after st (onward_next N e p ps h)) path j j0 j1

    -- the length of a string
    abbrev span : Vec A → List (Bend A) → A
    span s bs = measure (s ⟶ aim N e bs) + rest bs

    -- the theorem
    shortest : (s : Vec A) (ps : List (Portal A)) (bs : List (Bend A)) → Onward N e ps → Thread N e s ps bs → (path : Path D ps) → Nn N (tour path (scaled N D s) - D * span s bs)
    unfolding Least
    shortest s ps bs h st path =
        let w : Vec A = aim N e bs in
        let f : Vec A = best (s ⟶ w) in
        subst (λ m. Nn N (tour path (scaled N D s) - D * (m + rest bs))) (reached (s ⟶ w))
        (nn_eq K (start s w f (tour path (scaled N D s)) D (rest bs)) (reach st (after st h) path (scaled N D s) f (is_form (s ⟶ w)) (reached (s ⟶ w))))

    span_is : (s : Vec A) (bs : List (Bend A)) → span s bs ≡ along N measure s (corners N bs ++ (e ∷ []))
    unfolding ◌⇢◌
    span_is s [] = refl
    span_is s (b ∷ bs) = ap (λ m. measure (s ⟶ b.vertex.point) + m) (span_is b.vertex.point bs)

  -- ---- whole numbers of parts
  spot_is : (D : ℕ) (p : Portal A) (j : ℕ) → j ≤ D → spot (whole N D) p (whole N j) ≡ place N D p j
  unfolding mix
  spot_is D p j h = ap (λ i. plus N.ops (times N.ops i p.left.point) (times_over N j p.right.point)) (sym (whole_less K D j h))

  to_path : (D : ℕ) (ps : List (Portal A)) (js : List ℕ) → Marks N D ps js → Path (whole N D) ps
  to_path D [] [] h = stop
  to_path D [] (j ∷ js) h = absurd h
  to_path D (p ∷ ps) [] h = absurd h
  to_path D (p ∷ ps) (j ∷ js) h = through (whole N j) (whole_nn K j) (nn_eq K (whole_less K D j h.0) (whole_nn K (D ∸ j))) (to_path D ps js h.1)

  tour_is : (fs : List (Vec A)) (measure : Vec A → A) (G : Gauge N fs measure) (D : ℕ) (e : Vec A) (ps : List (Portal A)) (js : List ℕ) (h : Marks N D ps js) (x : Vec A)
      → tour fs measure G (whole N D) e (to_path D ps js h) x ≡ along N measure x (places N D ps js ++ (times_over N D e ∷ []))
  unfolding to_path scaled ◌⇢◌
  tour_is fs measure G D e [] [] h x = sym (R.laws.add_nil (measure (x ⟶ times_over N D e)))
  tour_is fs measure G D e [] (j ∷ js) h x = absurd h
  tour_is fs measure G D e (p ∷ ps) [] h x = absurd h
  tour_is fs measure G D e (p ∷ ps) (j ∷ js) h x =
      let y : Vec A = spot (whole N D) p (whole N j) in
      ap (λ m. measure (x ⟶ y) + m) (tour_is fs measure G D e ps js h.1 y) ∙ ap (λ u. measure (x ⟶ u) + along N measure u (places N D ps js ++ (times_over N D e ∷ []))) (spot_is D p j h.0)

  -- the theorem
  pub shortness : (fs : List (Vec A)) (measure : Vec A → A) → Gauge N fs measure → (s e : Vec A) (ps : List (Portal A)) (bs : List (Bend A)) → Sleeve N s ps e → TautString N s ps e bs
      → (D : ℕ) (js : List ℕ) → Marks N D ps js → Nn N (along N measure (times_over N D s) (places N D ps js ++ (times_over N D e ∷ [])) - whole N D * along N measure s (corners N bs ++ (e ∷ [])))
  unfolding scaled
  shortness fs measure G s e ps bs h st D js marks =
      subst (λ m. Nn N (m - whole N D * along N measure s (corners N bs ++ (e ∷ [])))) (tour_is fs measure G D e ps js marks (times_over N D s))
      (subst (λ m. Nn N (tour fs measure G (whole N D) e (to_path D ps js marks) (times_over N D s) - whole N D * m)) (span_is fs measure G (whole N D) e s bs)
      (shortest fs measure G (whole N D) e s ps bs (onward_of N s e ps h) (to_taut N st).thread (to_path D ps js marks)))
