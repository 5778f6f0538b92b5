-- Reading backwards. The reversed sleeve, with left and right exchanged, is a sleeve; its taut string has the same bends in reverse order, sides exchanged.
-- The string is followed forwards, and the part behind is kept as a thread back to the start. Where it bends, the bend is taken backwards at the same portal if the way on crosses it too;
-- else at the next portal, which then has the same end and is passed (`crossed_next`). The fan bound is not used.
use Rattle.std.proofs.Common.{◌≡◌, ℕ, zero, suc, ◌≤◌, List, [], ◌∷◌, map, length, sym, refl, ap, ◌∙◌, subst, inl, inr, arith}
use mathlib.Core.List.{reverse_aux}
use Rattle.algebra.specs.Arithmetic.{Arithmetic, Nn}
use Rattle.algebra.specs.Plane.{Vec, less, ◌⊗◌, ◌⟶◌ as ◌⇢◌}
use Rattle.algebra.proofs.RingSolver.{◌:=◌, E}
use Rattle.algebra.proofs.OrderedRing.{OrderedRing, base, pos_eq, nn_eq, clash, sign}
use Rattle.algebra.proofs.PlaneSolver.{◌:×◌, ring_v}
use Rattle.taut.specs.declared.Side.{Side}
use Rattle.taut.specs.declared.Side.TheVariants.{Left, Right}
use Rattle.taut.specs.Sleeve.{other, Portal, end, veer, Front, Behind, Link, Ahead, Sleeve}
use Rattle.taut.specs.TautString.{Bend, Crosses, Turns, aim, Stretched, TautString}
use Rattle.taut.specs.Backwards.{back_portal, backward, back_bend, backward_bends}
use Rattle.taut.proofs.Sides.{which, both}
use Rattle.taut.proofs.Veer.{swap, back, at_head}
use Rattle.taut.proofs.Portals.{keeps, front_from, starts_zero, behind_replaced}
use Rattle.taut.proofs.Thread.{Thread, arrive, pass, bend_at, Onward, onward_next, onward_of}
use Rattle.taut.proofs.IndexForm.{to_taut, of_taut}

module _ (K : OrderedRing) where
  abbrev N : Arithmetic
  N = K.numbers

  open N use {carrier as A, Pos}
  open N.ops use {nil as 𝟘, neg as -◌}
  open K.laws.order use {pos_nil}

  infix 75 -◌
  infix 73 ◌⟶◌
  abbrev ◌⟶◌ : Vec A → Vec A → Vec A
  v ⟶ w = ◌⇢◌ N v w

  -- ---- signs seen from the other side
  about_line : (t : Side) (v w x : Vec A) → veer N t (v ⟶ w) (v ⟶ x) ≡ veer N (other t) (w ⟶ v) (w ⟶ x)
  unfolding ◌⊗◌ ◌⇢◌
  about_line Left = ring_v (base K) 3 0 (λ v w x. less E w v :× less E x v := less E x w :× less E v w) refl
  about_line Right = ring_v (base K) 3 0 (λ v w x. less E x v :× less E w v := less E v w :× less E x w) refl

  turn_about : (t : Side) (u v w : Vec A) → veer N t (u ⟶ v) (v ⟶ w) ≡ veer N (other t) (w ⟶ v) (v ⟶ u)
  unfolding ◌⊗◌ ◌⇢◌
  turn_about Left = ring_v (base K) 3 0 (λ u v w. less E v u :× less E w v := less E u v :× less E v w) refl
  turn_about Right = ring_v (base K) 3 0 (λ u v w. less E w v :× less E v u := less E v w :× less E u v) refl

  crosses_back : (v w : Vec A) (p : Portal A) → Crosses N v w p → Crosses N w v (back_portal p)
  crosses_back v w p c Left = nn_eq K (about_line Right v w p.right.point) (c Right)
  crosses_back v w p c Right = nn_eq K (about_line Left v w p.left.point) (c Left)

  front_back : (p : Portal A) (x : Vec A) → Front N p x → Behind N (back_portal p) x
  front_back p x h = pos_eq K (about_line Left p.left.point p.right.point x) h

  behind_back : (p : Portal A) (x : Vec A) → Behind N p x → Front N (back_portal p) x
  behind_back p x h = pos_eq K (about_line Right p.left.point p.right.point x) h

  back_end : (t : Side) (p : Portal A) → end (other t) (back_portal p) ≡ end t p
  back_end Left p = refl
  back_end Right p = refl

  -- ---- a sleeve read backwards
  link_back : (p q : Portal A) → Link N p q → Link N (back_portal q) (back_portal p)
  link_back p q (inl k) = inr (sym k.0, behind_back q p.right.point (behind_replaced K Right p q k), λ is. k.2 (sym is))
  link_back p q (inr k) = inl (sym k.0, behind_back q p.left.point (behind_replaced K Left p q k), λ is. k.2 (sym is))

  ahead_back : (s e : Vec A) (ps : List (Portal A)) (p : Portal A) (acc : List (Portal A)) → Ahead N e p ps → Ahead N s (back_portal p) acc → Sleeve N e (reverse_aux (map back_portal ps) (back_portal p ∷ acc)) s
  ahead_back s e [] p acc h b = (front_back p e h, b)
  ahead_back s e (q ∷ ps) p acc h b = ahead_back s e ps q (back_portal p ∷ acc) h.1 (link_back p q h.0, b)

  pub sleeve_back : (s e : Vec A) (ps : List (Portal A)) → Sleeve N s ps e → Sleeve N e (backward ps) s
  sleeve_back s e [] h = tt
  sleeve_back s e (p ∷ ps) h = ahead_back s e ps p [] h.1 (behind_back p s h.0)

  -- ---- a string read backwards
  module _ (s e : Vec A) where
    -- the next portal, where the bend is taken instead
    data Skips (b : Bend A) (bs : List (Bend A)) : List (Portal A) → Type 0 where
      skips : {q : Portal A} {ps : List (Portal A)} → end b.side q ≡ b.vertex → Crosses N b.vertex.point (aim N e bs) q → Thread N e b.vertex.point ps bs → Skips b bs (q ∷ ps)

    -- the way on does not cross p
    module _ (v : Vec A) (p : Portal A) (b : Bend A) (bs : List (Bend A)) (is : end b.side p ≡ b.vertex) (tu : Turns N b.side v b.vertex.point (aim N e bs))
        (off : Pos (veer N b.side (b.vertex.point ⟶ aim N e bs) (b.vertex.point ⟶ (end (other b.side) p).point))) where
      abbrev t : Side
      t = b.side

      abbrev w : Vec A
      w = b.vertex.point

      not_front : (x : Vec A) → x ≡ aim N e bs → Front N p x → ⊥
      not_front x same f = clash K (subst (λ u. Pos (veer N t (w ⟶ u) (w ⟶ (end (other t) p).point))) (sym same) off) (pos_eq K (sym (back K t (w ⟶ x) (w ⟶ (end (other t) p).point))) (front_from K t p w x (ap (λ m. m.point) is) f))

      not_kept : (q : Portal A) → end (other t) q ≡ end (other t) p → Crosses N w (aim N e bs) q → ⊥
      not_kept q kept c = (subst (λ m. Nn N (veer N (other t) (w ⟶ aim N e bs) (w ⟶ m.point))) kept (c (other t))).not_neg
          (pos_eq K (sym (back K t (w ⟶ (end (other t) p).point) (w ⟶ aim N e bs)) ∙ ap -◌ (sym (swap K t (w ⟶ aim N e bs) (w ⟶ (end (other t) p).point)))) off)

      no_bend_next : (q : Portal A) (b₂ : Bend A) → end t q ≡ end t p → Front N p (end (other t) q).point → end b₂.side q ≡ b₂.vertex → b₂.vertex.point ≡ aim N e bs → ⊥
      no_bend_next q b₂ kept f is₂ same = elim (which t b₂.side) [
        | inl r ↦
            let at_w : aim N e bs ≡ w = sym same ∙ ap (λ m. m.point) (sym is₂ ∙ ap (λ x. end x q) r ∙ kept ∙ is) in
            pos_nil (pos_eq K (at_head K t v w) (subst (λ u. Turns N t v w u) at_w tu))
        | inr r ↦ not_front (end (other t) q).point (ap (λ m. m.point) (ap (λ x. end x q) (sym r) ∙ is₂) ∙ same) f
      ]

    crossed_next : (v : Vec A) (p : Portal A) (ps : List (Portal A)) (b : Bend A) (bs : List (Bend A)) → end b.side p ≡ b.vertex → Turns N b.side v b.vertex.point (aim N e bs) → Ahead N e p ps
        → Pos (veer N b.side (b.vertex.point ⟶ aim N e bs) (b.vertex.point ⟶ (end (other b.side) p).point)) → Thread N e b.vertex.point ps bs → Skips b bs ps
    crossed_next v p [] b bs is tu h off arrive = absurd (not_front v p b bs is tu off e refl h)
    crossed_next v p (q ∷ ps) b bs is tu h off (pass c st) = elim (keeps K b.side p q h.0) [
      | inl k ↦ skips (k.0 ∙ is) c st
      | inr k ↦ absurd (not_kept v p b bs is tu off q k.0 c)
    ]
    crossed_next v p (q ∷ ps) b bs' is tu h off (bend_at {b = b₂} {bs = bs} c is₂ tu₂ st) = elim (keeps K b.side p q h.0) [
      | inl k ↦ absurd (no_bend_next v p b (b₂ ∷ bs) is tu off q b₂ k.0 k.1 is₂ refl)
      | inr k ↦ absurd (not_kept v p b (b₂ ∷ bs) is tu off q k.0 c)
    ]

    abbrev Done : List (Portal A) → List (Bend A) → List (Portal A) → List (Bend A) → Type 0
    Done ps bs acc cs = Thread N s e (reverse_aux (map back_portal ps) acc) (reverse_aux (map back_bend bs) cs)

    -- the string has come to a corner v, and goes on to the next; acc and cs lead from there back to the start, over v
    pass_back : (v w : Vec A) (p : Portal A) (acc : List (Portal A)) (cs : List (Bend A)) → aim N s cs ≡ v → Crosses N v w p → Thread N s w acc cs → Thread N s w (back_portal p ∷ acc) cs
    pass_back v w p acc cs at_v c st = pass (subst (λ u. Crosses N w u (back_portal p)) (sym at_v) (crosses_back v w p c)) st

    bend_back : (v w' : Vec A) (p : Portal A) (b : Bend A) (acc : List (Portal A)) (cs : List (Bend A)) → aim N s cs ≡ v → Crosses N b.vertex.point w' p → end b.side p ≡ b.vertex → Turns N b.side v b.vertex.point w'
        → Thread N s b.vertex.point acc cs → Thread N s w' (back_portal p ∷ acc) (back_bend b ∷ cs)
    bend_back v w' p b acc cs at_v c is tu st = bend_at (crosses_back b.vertex.point w' p c) (back_end b.side p ∙ is) (subst (λ u. Turns N (other b.side) w' b.vertex.point u) (sym at_v) (pos_eq K (turn_about b.side v b.vertex.point w') tu)) st

    use_skip : {b : Bend A} {bs : List (Bend A)} {ps : List (Portal A)} (n : ℕ) → length ps ≤ n → (Goal : List (Portal A) → Type 0) → Skips b bs ps
        → ((q : Portal A) (qs : List (Portal A)) → length qs ≤ n → end b.side q ≡ b.vertex → Crosses N b.vertex.point (aim N e bs) q → Thread N e b.vertex.point qs bs → (Onward N e (q ∷ qs) → Goal (q ∷ qs))) → Onward N e ps → Goal ps
    use_skip n le Goal (skips {q = q} {ps = qs} is c st) f h = f q qs (omega arith) is c st h

    back_on : (n : ℕ) {v : Vec A} {ps : List (Portal A)} {bs : List (Bend A)} (acc : List (Portal A)) (cs : List (Bend A)) → length ps ≤ n → Thread N e v ps bs → Onward N e ps → aim N s cs ≡ v → Thread N s (aim N e bs) acc cs → Done ps bs acc cs
    back_on n acc cs le arrive h at_v st = st
    back_on zero acc cs le (pass c on) h at_v st = absurd (omega arith)
    back_on zero acc cs le (bend_at c is tu on) h at_v st = absurd (omega arith)
    back_on (suc n) acc cs le (pass {v = v} {p = p} {ps = ps} {bs = bs} c on) h at_v st = back_on n (back_portal p ∷ acc) cs (omega arith) on (onward_next N e p ps h) at_v (pass_back v (aim N e bs) p acc cs at_v c st)
    back_on (suc n) acc cs le (bend_at {v = v} {p = p} {ps = ps} {b = b} {bs = bs} c is tu on) h at_v st =
        let w : Vec A = b.vertex.point in
        let o : Vec A = (end (other b.side) p).point in
        elim (sign K (veer N (other b.side) (w ⟶ aim N e bs) (w ⟶ o))) [
          | inl far ↦
              let near : Nn N (veer N b.side (w ⟶ aim N e bs) (w ⟶ (end b.side p).point)) = subst (λ m. Nn N (veer N b.side (w ⟶ aim N e bs) (w ⟶ m.point))) (sym is) (starts_zero K b.side w (aim N e bs)) in
              back_on n (back_portal p ∷ acc) (back_bend b ∷ cs) (omega arith) on (onward_next N e p ps h) refl (bend_back v (aim N e bs) p b acc cs at_v (both b.side (λ t. Nn N (veer N t (w ⟶ aim N e bs) (w ⟶ (end t p).point))) near far) is tu st)
          | inr off ↦
              use_skip n (omega arith) (λ qs. Done qs bs (back_portal p ∷ acc) (back_bend b ∷ cs)) (crossed_next v p ps b bs is tu h (pos_eq K (ap -◌ (swap K b.side (w ⟶ aim N e bs) (w ⟶ o)) ∙ back K b.side (w ⟶ o) (w ⟶ aim N e bs)) off) on)
              (λ q qs le₂ is₂ c₂ on₂ h₂.
              back_on n (back_portal q ∷ back_portal p ∷ acc) (back_bend b ∷ cs) le₂ on₂ (onward_next N e q qs h₂) refl (bend_back v (aim N e bs) q b (back_portal p ∷ acc) cs at_v c₂ is₂ tu (pass_back v w p acc cs at_v c st))) (onward_next N e p ps h)
        ]

  no_bends : (s e : Vec A) (qs : List (Portal A)) → ¬ (s ≡ e) → Stretched N e qs [] s
  no_bends s e [] ne = tt
  no_bends s e (q ∷ qs) ne = λ is. ne (sym is)

  some_bends : (s e : Vec A) (qs : List (Portal A)) (cs ds : List (Bend A)) (d : Bend A) → Stretched N e qs (reverse_aux cs (d ∷ ds)) s
  some_bends s e [] [] ds d = tt
  some_bends s e (q ∷ qs) [] ds d = tt
  some_bends s e qs (c ∷ cs) ds d = some_bends s e qs cs (d ∷ ds) c

  stretched_back : (s e : Vec A) (ps : List (Portal A)) (bs : List (Bend A)) → Stretched N s ps bs e → Stretched N e (backward ps) (backward_bends bs) s
  stretched_back s e [] bs h = tt
  stretched_back s e (p ∷ ps) [] h = no_bends s e (backward (p ∷ ps)) h
  stretched_back s e (p ∷ ps) (b ∷ bs) h = some_bends s e (backward (p ∷ ps)) (map back_bend bs) [] (back_bend b)

  pub string_back : (s e : Vec A) (ps : List (Portal A)) (bs : List (Bend A)) → Sleeve N s ps e → TautString N s ps e bs → TautString N e (backward ps) s (backward_bends bs)
  string_back s e ps bs h st = of_taut N (record { thread = back_on s e (length ps) [] [] (omega arith) (to_taut N st).thread (onward_of N s e ps h) refl arrive; stretched = stretched_back s e ps bs st.stretched })
