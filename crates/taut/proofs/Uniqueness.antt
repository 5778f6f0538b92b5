-- Uniqueness. A sleeve has at most one taut string, whatever indices witness it.
-- Two strings are walked side by side from the start. As long as they are at one vertex (Common) they pass together or bend together; every other way parts them, and parted strings do not exist (Parted).
-- That start and end differ where there is no bend is used once, at the start. The fan bound is not used.
use Rattle.std.proofs.Common.{◌≡◌, List, [], ◌∷◌, sym, refl, ap, ◌∙◌, subst, inl, inr}
use Rattle.algebra.specs.Arithmetic.{Arithmetic, Nn}
use Rattle.algebra.specs.Plane.{Vec, ◌⟶◌ as ◌⇢◌}
use Rattle.algebra.proofs.RingSolver.{CommRing}
use Rattle.algebra.proofs.OrderedRing.{OrderedRing, base, pos_eq, nn_eq, nn_pos, sign}
use Rattle.taut.specs.declared.Side.{Side}
use Rattle.taut.specs.declared.Side.TheVariants.{Left, Right}
use Rattle.taut.specs.Sleeve.{other, Portal, end, veer, Front, Behind, Ahead, Sleeve}
use Rattle.taut.specs.TautString.{Bend, Crosses, Turns, aim, Stretched, TautString}
use Rattle.taut.proofs.Veer.{swap, back, still, from_head, to_foot, cyc, behind_is, left_end, right_end}
use Rattle.taut.proofs.Sides.{which, side_of, both}
use Rattle.taut.proofs.Portals.{front, on_line}
use Rattle.taut.proofs.Thread.{Thread, arrive, pass, bend_at, crossing, first_turn, Taut}
use Rattle.taut.proofs.IndexForm.{to_taut}
use Rattle.taut.proofs.Along.{goes_somewhere}
use Rattle.taut.proofs.Parting.{InFront, bent_near, bent_new}
use Rattle.taut.proofs.Parted.{delay, Pair, waits, parts, aparts}
use Rattle.taut.proofs.Facing.{all_faces}
use Rattle.taut.proofs.PieceOrder.{goes_through}
use Rattle.taut.proofs.Common.{nn_zero, Common, turned, clear, onward}

pub same_bend : {A : Type 0} {b b' : Bend A} {bs bs' : List (Bend A)} → b.side ≡ b'.side → b.vertex ≡ b'.vertex → bs ≡ bs' → (b ∷ bs) ≡ (b' ∷ bs')
same_bend s c r = λ i. record { side = s i; vertex = c i } ∷ r i

module _ (K : OrderedRing) (e : Vec K.numbers.carrier) where
  abbrev N : Arithmetic
  N = K.numbers

  abbrev R : CommRing
  R = base K

  open N use {carrier as A, Pos}
  open N.ops use {nil as 𝟘, add as ◌+◌, mul as ◌*◌, neg as -◌}
  open K.laws.order use {pos_nil}

  infixl 65 ◌+◌
  infixl 70 ◌*◌
  infix 75 -◌
  infix 73 ◌⟶◌
  abbrev ◌⟶◌ : Vec A → Vec A → Vec A
  v ⟶ w = ◌⇢◌ N v w

  fore_other : (t : Side) (p : Portal A) (z : Vec A) → InFront K t p z → InFront K (other t) p z
  fore_other Left p z f = pos_eq K (cyc K Left p.left.point p.right.point z) f
  fore_other Right p z f = pos_eq K (cyc K Right p.right.point p.left.point z) f

  -- the other string, seen from a bend
  beside : (t : Side) (p : Portal A) (x w' : Vec A) (b : Bend A) → b.side ≡ t → end b.side p ≡ b.vertex → Crosses N x w' p → Nn N (veer N t (x ⟶ w') (x ⟶ b.vertex.point))
  beside t p x w' b s is c = subst (λ m. Nn N (veer N t (x ⟶ w') (x ⟶ m.point))) (ap (λ r. end r p) (sym s) ∙ is) (c t)

  module _ (t : Side) (p q : Portal A) (ps : List (Portal A)) (kept : end (other t) q ≡ end (other t) p) (fr : InFront K t p (end t q).point)
      (none : (s : Side) → Pair K e s q ps → ⊥) (rec : (x : Vec A) (bs bs' : List (Bend A)) → Common K x q (aim N e bs) (aim N e bs') → Thread N e x (q ∷ ps) bs → Thread N e x (q ∷ ps) bs' → bs ≡ bs') where
    abbrev f : Vec A
    f = (end t p).point

    abbrev z : Vec A
    z = (end t q).point

    abbrev o : Vec A
    o = (end (other t) q).point

    later : (v : Vec A) (b : Bend A) (bs : List (Bend A)) → b.side ≡ other t → end b.side p ≡ b.vertex → Turns N b.side v b.vertex.point (aim N e bs) → Thread N e b.vertex.point (q ∷ ps) bs → Nn N (veer N t (v ⟶ b.vertex.point) (v ⟶ z)) → Thread N e v (q ∷ ps) (b ∷ bs)
    later v b bs s is tu st h = delay K e p q ps v b bs is (subst (λ r. end r q ≡ end r p) (sym s) kept) tu (side_of t b.side s (λ r. Nn N (veer N r (v ⟶ b.vertex.point) (v ⟶ (end r q).point))) h) st

    bend_pass : (x : Vec A) (b : Bend A) (cs bs' : List (Bend A)) → Common K x p b.vertex.point (aim N e bs') → Crosses N x b.vertex.point p → end b.side p ≡ b.vertex → Turns N b.side x b.vertex.point (aim N e cs) → Thread N e b.vertex.point (q ∷ ps) cs
        → Crosses N x (aim N e bs') p → Thread N e x (q ∷ ps) bs' → (b ∷ cs) ≡ bs'
    bend_pass x b cs bs' cm c is tu st c' st' =
        let w : Vec A = b.vertex.point in
        let w' : Vec A = aim N e bs' in
        elim (which t b.side) [
          | inl s ↦ absurd (none t (parts K e t p q ps kept fr x x b cs bs' s c is tu st (λ un. st') (clear K t x p w w' cm c c' (beside t p x w' b s is c'))))
          | inr s ↦ elim (sign K (veer N t (x ⟶ w) (x ⟶ z))) [
            | inl n ↦
                let d : Thread N e x (q ∷ ps) (b ∷ cs) = later x b cs s is tu st n in
                rec x (b ∷ cs) bs' (onward K t p q kept fr x w w' cm c (crossing N d) c' (crossing N st')) d st'
            | inr n ↦ absurd (clear K (other t) x p w w' cm c c' (beside (other t) p x w' b s is c') z (fore_other t p z fr) (pos_eq K (back K t (x ⟶ w) (x ⟶ z) ∙ sym (swap K t (x ⟶ w) (x ⟶ z))) n) (nn_eq K (sym (swap K t (x ⟶ z) (x ⟶ w'))) (crossing N st' t)))
          ]
        ]

    -- both bend at the end that goes
    gone : (v w w' : Vec A) → Crosses N v f p → Turns N t v f w → Turns N t v f w' → Crosses N f w q → Crosses N f w' q → Common K f q w w'
    gone v w w' cp tu tu' cq cq' =
        let new : (u : Vec A) → Turns N t v f u → Crosses N f u q → (r : Side) → veer N r (f ⟶ u) (f ⟶ (end r q).point) ≡ 𝟘 → Nn N (veer N (other t) (f ⟶ (end r q).point) (v ⟶ f)) = λ u tv cv. both t (λ r. veer N r (f ⟶ u) (f ⟶ (end r q).point) ≡ 𝟘 → Nn N (veer N (other t) (f ⟶ (end r q).point) (v ⟶ f)))
        (λ k. nn_eq K (from_head K t v f z ∙ sym (swap K t (f ⟶ z) (v ⟶ f))) (nn_pos K (bent_new K t p q kept fr v u cp tv cv)))
        (λ k. absurd (pos_nil (pos_eq K (sym (swap K t (f ⟶ u) (f ⟶ o)) ∙ k) (bent_near K t p q kept fr v u cp tv cv)))) in
        record {
          side = other t;
          h = v ⟶ f;
          on = pos_eq K (sym (swap K t (f ⟶ w) (v ⟶ f))) tu;
          on' = pos_eq K (sym (swap K t (f ⟶ w') (v ⟶ f))) tu';
          faces = all_faces K t q f (subst (λ m. Nn N (veer N t (f ⟶ m.point) (f ⟶ z))) (sym kept) (nn_pos K fr));
          ahead = new w tu cq;
          ahead' = new w' tu' cq';
        }

    -- both bend at the end that stays, and the piece does not cross the next portal
    stayed : (v w w' : Vec A) → Pos (veer N t (v ⟶ z) (v ⟶ o)) → Turns N (other t) v o w → Turns N (other t) v o w' → Common K o q w w'
    stayed v w w' h tu tu' =
        let new : (u : Vec A) → (r : Side) → veer N r (o ⟶ u) (o ⟶ (end r q).point) ≡ 𝟘 → Nn N (veer N t (o ⟶ (end r q).point) (v ⟶ o)) = λ u. both t (λ r. veer N r (o ⟶ u) (o ⟶ (end r q).point) ≡ 𝟘 → Nn N (veer N t (o ⟶ (end r q).point) (v ⟶ o)))
        (λ k. nn_eq K (to_foot K t v o z) (nn_pos K h)) (λ k. nn_zero K (still K t o (v ⟶ o))) in
        record {
          side = t;
          h = v ⟶ o;
          on = pos_eq K (swap K t (v ⟶ o) (o ⟶ w)) tu;
          on' = pos_eq K (swap K t (v ⟶ o) (o ⟶ w')) tu';
          faces = all_faces K t q o (nn_zero K (still K t o (o ⟶ z)));
          ahead = new w;
          ahead' = new w';
        }

    module _ (x : Vec A) (b b' : Bend A) (cs cs' : List (Bend A)) (cm : Common K x p b.vertex.point b'.vertex.point)
        (c : Crosses N x b.vertex.point p) (is : end b.side p ≡ b.vertex) (tu : Turns N b.side x b.vertex.point (aim N e cs)) (st : Thread N e b.vertex.point (q ∷ ps) cs)
        (c' : Crosses N x b'.vertex.point p) (is' : end b'.side p ≡ b'.vertex) (tu' : Turns N b'.side x b'.vertex.point (aim N e cs')) (st' : Thread N e b'.vertex.point (q ∷ ps) cs') where
      both_gone : b.side ≡ t → b'.side ≡ t → (b ∷ cs) ≡ (b' ∷ cs')
      both_gone s s' =
          let k : b.vertex ≡ end t p = sym is ∙ ap (λ r. end r p) s in
          let k' : b'.vertex ≡ end t p = sym is' ∙ ap (λ r. end r p) s' in
          let on : Thread N e f (q ∷ ps) cs = subst (λ m. Thread N e m.point (q ∷ ps) cs) k st in
          let on' : Thread N e f (q ∷ ps) cs' = subst (λ m. Thread N e m.point (q ∷ ps) cs') k' st' in
          let tv : Turns N t x f (aim N e cs) = subst (λ m. Turns N t x m.point (aim N e cs)) k (subst (λ r. Turns N r x b.vertex.point (aim N e cs)) s tu) in
          let tv' : Turns N t x f (aim N e cs') = subst (λ m. Turns N t x m.point (aim N e cs')) k' (subst (λ r. Turns N r x b'.vertex.point (aim N e cs')) s' tu') in
          same_bend (s ∙ sym s') (k ∙ sym k') (rec f cs cs' (gone x (aim N e cs) (aim N e cs') (subst (λ m. Crosses N x m.point p) k c) tv tv' (crossing N on) (crossing N on')) on on')

      both_stay : b.side ≡ other t → b'.side ≡ other t → (b ∷ cs) ≡ (b' ∷ cs')
      both_stay s s' =
          let k : b.vertex ≡ end (other t) q = sym is ∙ ap (λ r. end r p) s ∙ sym kept in
          let k' : b'.vertex ≡ end (other t) q = sym is' ∙ ap (λ r. end r p) s' ∙ sym kept in
          elim (sign K (veer N t (x ⟶ o) (x ⟶ z))) [
            | inl n ↦
                let d : Thread N e x (q ∷ ps) (b ∷ cs) = later x b cs s is tu st (subst (λ m. Nn N (veer N t (x ⟶ m.point) (x ⟶ z))) (sym k) n) in
                let d' : Thread N e x (q ∷ ps) (b' ∷ cs') = later x b' cs' s' is' tu' st' (subst (λ m. Nn N (veer N t (x ⟶ m.point) (x ⟶ z))) (sym k') n) in
                rec x (b ∷ cs) (b' ∷ cs') (onward K t p q kept fr x b.vertex.point b'.vertex.point cm c (crossing N d) c' (crossing N d')) d d'
            | inr n ↦
                let on : Thread N e o (q ∷ ps) cs = subst (λ m. Thread N e m.point (q ∷ ps) cs) k st in
                let on' : Thread N e o (q ∷ ps) cs' = subst (λ m. Thread N e m.point (q ∷ ps) cs') k' st' in
                let tv : Turns N (other t) x o (aim N e cs) = subst (λ m. Turns N (other t) x m.point (aim N e cs)) k (subst (λ r. Turns N r x b.vertex.point (aim N e cs)) s tu) in
                let tv' : Turns N (other t) x o (aim N e cs') = subst (λ m. Turns N (other t) x m.point (aim N e cs')) k' (subst (λ r. Turns N r x b'.vertex.point (aim N e cs')) s' tu') in
                same_bend (s ∙ sym s') (k ∙ sym k') (rec o cs cs' (stayed x (aim N e cs) (aim N e cs') (pos_eq K (back K t (x ⟶ o) (x ⟶ z)) n) tv tv') on on')
          ]

      apiece : b.side ≡ t → b'.side ≡ other t → ⊥
      apiece s s' = none t (parts K e t p q ps kept fr x x b cs (b' ∷ cs') s c is tu st (λ un. waits K e t p q ps kept fr x b' cs' s' is' tu' st' un) (clear K t x p b.vertex.point b'.vertex.point cm c c' (beside t p x b'.vertex.point b s is c')))

    bend_bend : (x : Vec A) (b b' : Bend A) (cs cs' : List (Bend A)) → Common K x p b.vertex.point b'.vertex.point
        → Crosses N x b.vertex.point p → end b.side p ≡ b.vertex → Turns N b.side x b.vertex.point (aim N e cs) → Thread N e b.vertex.point (q ∷ ps) cs
        → Crosses N x b'.vertex.point p → end b'.side p ≡ b'.vertex → Turns N b'.side x b'.vertex.point (aim N e cs') → Thread N e b'.vertex.point (q ∷ ps) cs' → (b ∷ cs) ≡ (b' ∷ cs')
    bend_bend x b b' cs cs' cm c is tu st c' is' tu' st' = elim (which t b.side) [
      | inl s ↦ elim (which t b'.side) [
        | inl s' ↦ both_gone x b b' cs cs' cm c is tu st c' is' tu' st' s s'
        | inr s' ↦ absurd (apiece x b b' cs cs' cm c is tu st c' is' tu' st' s s')
      ]
      | inr s ↦ elim (which t b'.side) [
        | inl s' ↦ absurd (apiece x b' b cs' cs (turned K cm) c' is' tu' st' c is tu st s' s)
        | inr s' ↦ both_stay x b b' cs cs' cm c is tu st c' is' tu' st' s s'
      ]
    ]

    pub next : (x : Vec A) (bs bs' : List (Bend A)) → Common K x p (aim N e bs) (aim N e bs') → Thread N e x (p ∷ q ∷ ps) bs → Thread N e x (p ∷ q ∷ ps) bs' → bs ≡ bs'
    next x bs bs' cm (pass c st) (pass c' st') = rec x bs bs' (onward K t p q kept fr x (aim N e bs) (aim N e bs') cm c (crossing N st) c' (crossing N st')) st st'
    next x bs bs' cm (bend_at {b = b} {bs = cs} c is tu st) (pass c' st') = bend_pass x b cs bs' cm c is tu st c' st'
    next x bs bs' cm (pass c st) (bend_at {b = b} {bs = cs} c' is tu st') = sym (bend_pass x b cs bs (turned K cm) c' is tu st' c st)
    next x bs bs' cm (bend_at {b = b} {bs = cs} c is tu st) (bend_at {b = b'} {bs = cs'} c' is' tu' st') = bend_bend x b b' cs cs' cm c is tu st c' is' tu' st'

  -- ---- at the end
  last_pass : (p : Portal A) (x : Vec A) (b : Bend A) → Front N p e → Common K x p b.vertex.point e → Crosses N x b.vertex.point p → end b.side p ≡ b.vertex → Turns N b.side x b.vertex.point e → Crosses N x e p → ⊥
  last_pass p x b h cm c is tu c' = clear K b.side x p b.vertex.point e cm c c' (beside b.side p x e b refl is c') e (front K b.side p e h) (pos_eq K (sym (from_head K b.side x b.vertex.point e)) tu) (on_line K b.side x e)

  last_bend : (t : Side) (p : Portal A) (x : Vec A) (b b' : Bend A) → b.side ≡ t → b'.side ≡ other t → Front N p e → Common K x p b.vertex.point b'.vertex.point → Crosses N x b.vertex.point p → end b.side p ≡ b.vertex → Turns N b.side x b.vertex.point e → Crosses N x b'.vertex.point p → Turns N b'.side x b'.vertex.point e → ⊥
  last_bend t p x b b' s s' h cm c is tu c' tu' =
      let w' : Vec A = b'.vertex.point in
      let tv' : Turns N (other t) x w' e = subst (λ r. Turns N r x w' e) s' tu' in
      let off : Pos (veer N (other t) (x ⟶ w') (x ⟶ e)) = pos_eq K (sym (from_head K (other t) x w' e)) tv' in
      clear K t x p b.vertex.point w' cm c c' (beside t p x w' b s is c') e (front K t p e h) (pos_eq K (sym (from_head K t x b.vertex.point e)) (subst (λ r. Turns N r x b.vertex.point e) s tu)) (nn_pos K (pos_eq K (swap K t (x ⟶ w') (x ⟶ e)) off))

  last : (p : Portal A) (x : Vec A) (bs bs' : List (Bend A)) → Front N p e → Common K x p (aim N e bs) (aim N e bs') → Thread N e x (p ∷ []) bs → Thread N e x (p ∷ []) bs' → bs ≡ bs'
  last p x bs bs' h cm (pass c arrive) (pass c' arrive) = refl
  last p x bs bs' h cm (bend_at {b = b} c is tu arrive) (pass c' arrive) = absurd (last_pass p x b h cm c is tu c')
  last p x bs bs' h cm (pass c arrive) (bend_at {b = b} c' is tu arrive) = absurd (last_pass p x b h (turned K cm) c' is tu c)
  last p x bs bs' h cm (bend_at {b = b} c is tu arrive) (bend_at {b = b'} c' is' tu' arrive) = elim (which b.side b'.side) [
    | inl s ↦ same_bend (sym s) (sym is ∙ ap (λ r. end r p) (sym s) ∙ is') refl
    | inr s ↦ absurd (last_bend b.side p x b b' refl s h cm c is tu c' tu')
  ]

  pub agree : (ps : List (Portal A)) (p : Portal A) → Ahead N e p ps → (x : Vec A) (bs bs' : List (Bend A)) → Common K x p (aim N e bs) (aim N e bs') → Thread N e x (p ∷ ps) bs → Thread N e x (p ∷ ps) bs' → bs ≡ bs'
  agree [] p h x bs bs' cm one two = last p x bs bs' h cm one two
  agree (q ∷ ps) p h x bs bs' cm one two = elim h.0 [
    | inl k ↦ next Right p q ps k.0 (front K Right p q.right.point k.1) (λ s. aparts K e s ps q h.1) (agree ps q h.1) x bs bs' cm one two
    | inr k ↦ next Left p q ps k.0 (front K Left p q.left.point k.1) (λ s. aparts K e s ps q h.1) (agree ps q h.1) x bs bs' cm one two
  ]

  moving : (s : Vec A) (p : Portal A) (ps : List (Portal A)) (bs : List (Bend A)) → Thread N e s (p ∷ ps) bs → Stretched N s (p ∷ ps) bs e → ¬ (s ≡ aim N e bs)
  moving s p ps [] st h = h
  moving s p ps (b ∷ bs) st h = λ q. pos_nil (pos_eq K (still K b.side b.vertex.point (b.vertex.point ⟶ aim N e bs)) (subst (λ u. Pos (veer N b.side (u ⟶ b.vertex.point) (b.vertex.point ⟶ aim N e bs))) q (first_turn N st)))

  begin : (s : Vec A) (p : Portal A) (w w' : Vec A) → Behind N p s → Crosses N s w p → Crosses N s w' p → ¬ (s ≡ w) → ¬ (s ≡ w') → Common K s p w w'
  begin s p w w' bh c c' ne ne' =
      let l : Vec A = p.left.point in
      let r : Vec A = p.right.point in
      let h : Pos (veer N Left (s ⟶ r) (s ⟶ l)) = pos_eq K (behind_is K l r s) bh in
      let ends : (u : Vec A) (t : Side) → veer N t (s ⟶ u) (s ⟶ (end t p).point) ≡ 𝟘 → Nn N (veer N Right (s ⟶ (end t p).point) (l ⟶ r)) = λ u. both Left (λ t. veer N t (s ⟶ u) (s ⟶ (end t p).point) ≡ 𝟘 → Nn N (veer N Right (s ⟶ (end t p).point) (l ⟶ r))) (λ k. nn_pos K (pos_eq K (left_end K l r s) h)) (λ k. nn_pos K (pos_eq K (right_end K l r s) h)) in
      record { side = Right; h = l ⟶ r; on = goes_through K p s (s ⟶ w) h c (goes_somewhere K s w ne); on' = goes_through K p s (s ⟶ w') h c' (goes_somewhere K s w' ne'); faces = all_faces K Left p s (nn_pos K h); ahead = ends w; ahead' = ends w' }

  -- for threads
  pub unique : (s : Vec A) (ps : List (Portal A)) (bs bs' : List (Bend A)) → Sleeve N s ps e → Taut N s ps e bs → Taut N s ps e bs' → bs ≡ bs'
  unique s [] bs bs' h one two = empty one.thread two.thread
    where
      empty : {bs bs' : List (Bend A)} → Thread N e s [] bs → Thread N e s [] bs' → bs ≡ bs'
      empty arrive arrive = refl
  unique s (p ∷ ps) bs bs' h one two = agree ps p h.1 s bs bs' (begin s p (aim N e bs) (aim N e bs') h.0 (crossing N one.thread) (crossing N two.thread) (moving s p ps bs one.thread one.stretched) (moving s p ps bs' two.thread two.stretched)) one.thread two.thread

module _ (K : OrderedRing) where
  open K.numbers use {carrier as A₁}

  -- the theorem
  pub uniqueness : (s e : Vec A₁) (ps : List (Portal A₁)) (bs bs' : List (Bend A₁)) → Sleeve K.numbers s ps e → TautString K.numbers s ps e bs → TautString K.numbers s ps e bs' → bs ≡ bs'
  uniqueness s e ps bs bs' h one two = unique K e s ps bs bs' h (to_taut K.numbers one) (to_taut K.numbers two)
