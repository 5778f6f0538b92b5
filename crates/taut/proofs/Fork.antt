-- A fork. Two strings leave one point v for the same next corner w, with the same bends; the one goes through a portal (l, x), the other through (x, r), two sides of a triangle l, x, r. There are no such strings.
-- Both portals are crossed by the piece, so x lies on its line. If w lies before x, one of the portals is never completed (PieceOrder). If w is x, it is a corner of the wrong side for one of the two.
-- If w lies beyond x, the first string meets the direction of the piece on its way round x with x on its right, the second with x on its left, and the triangle holds the opposite direction: in one fan, a direction, its opposite, and the direction again.
use Rattle.std.proofs.Common.{◌≡◌, List, [], ◌∷◌, ◌++◌, reverse, sym, refl, ap, ◌∙◌, subst, inl, inr}
use mathlib.Core.List.{reverse_aux}
use Rattle.algebra.specs.Arithmetic.{Arithmetic, Nn}
use Rattle.algebra.specs.Plane.{Vec, ◌⊗◌, ◌⟶◌ as ◌⇢◌}
use Rattle.algebra.proofs.RingSolver.{CommRing, :0, ◌:=◌, at, neg_nil, sub_nil}
use Rattle.algebra.proofs.OrderedRing.{OrderedRing, base, pos_eq, nn_eq, nn_pos, nn_split, nn_add}
use Rattle.algebra.proofs.PlaneSolver.{◌:×◌, ring_v, same_vector}
use Rattle.taut.specs.declared.Side.{Side}
use Rattle.taut.specs.declared.Side.TheVariants.{Left, Right}
use Rattle.taut.specs.Sleeve.{other, Portal, end, veer, Front, Behind, Ahead}
use Rattle.taut.specs.TautString.{Bend, Crosses, Turns, aim}
use Rattle.taut.specs.Fan.{Within, Met, Fan, origin, opposite}
use Rattle.taut.specs.EqualBends.{OneFan}
use Rattle.taut.proofs.Sides.{which, both}
use Rattle.taut.proofs.Veer.{swap, back, still, from_head, past_line, lies, turn_round}
use Rattle.taut.proofs.Portals.{keeps, behind_replaced, no_front_end, two_ends}
use Rattle.taut.proofs.Thread.{Thread, arrive, pass, bend_at, crossing}
use Rattle.taut.proofs.Along.{along_nn, along_pos, along_both, axes, flipped}
use Rattle.taut.proofs.FanOrder.{not_again}
use Rattle.taut.proofs.Runs.{rays, within, run_rays}
use Rattle.taut.proofs.Facing.{zero_back, all_faces}
use Rattle.taut.proofs.PieceOrder.{from_end, never_reached, before_behind}

module _ (K : OrderedRing) (e : Vec K.numbers.carrier) where
  abbrev N : Arithmetic
  N = K.numbers

  abbrev R : CommRing
  R = base K

  open N use {carrier as A, Pos}
  open N.ops use {nil as 𝟘, add as ◌+◌, neg as -◌}
  open K.laws.order use {pos_nil}

  infixl 65 ◌+◌
  infix 75 -◌
  infix 73 ◌⟶◌
  abbrev ◌⟶◌ : Vec A → Vec A → Vec A
  v ⟶ w = ◌⇢◌ N v w

  -- from v to w is a direction
  abbrev pub Moves : Vec A → Vec A → Type 0
  Moves v w = ¬ ((v ⟶ w) ≡ origin N)

  no_way : (t : Side) (a : Vec A) → veer N t a (origin N) ≡ 𝟘
  unfolding ◌⊗◌
  no_way Left = ring_v R 1 0 (λ a. a :× record { x = :0; y = :0 } := :0) refl
  no_way Right = ring_v R 1 0 (λ a. record { x = :0; y = :0 } :× a := :0) refl

  pub moves_after : (t : Side) (u v w : Vec A) → Turns N t u v w → Moves v w
  moves_after t u v w tu is = pos_nil (pos_eq K (no_way t (u ⟶ v)) (subst (λ d. Pos (veer N t (u ⟶ v) d)) is tu))

  pub moves_before : (t : Side) (u v w : Vec A) → Turns N t u v w → Moves u v
  moves_before t u v w tu is = pos_nil (pos_eq K (none t (v ⟶ w)) (subst (λ d. Pos (veer N t d (v ⟶ w))) is tu))
    where
      none : (t : Side) (a : Vec A) → veer N t (origin N) a ≡ 𝟘
      none Left a = no_way Right a
      none Right a = no_way Left a

  -- a piece whose end lies strictly behind a portal that it should cross
  pub never_behind : (q : Portal A) (ps : List (Portal A)) → Ahead N e q ps → (v : Vec A) (bs : List (Bend A)) → Moves v (aim N e bs) → Behind N q (aim N e bs) → Thread N e v (q ∷ ps) bs → ⊥
  never_behind q ps h v bs mv bh st = never_reached K e ps q h v bs (before_behind K q (aim N e bs) (v ⟶ aim N e bs) bh (from_end K v (aim N e bs) q (crossing N st)) mv) st

  -- ---- w is an end of the portal, and not a corner on that side
  abbrev NotOn : Side → List (Bend A) → Type 0
  NotOn t [] = Unit {0}
  NotOn t (b ∷ bs) = b.side ≡ other t

  no_stop : (t : Side) (ps : List (Portal A)) (q : Portal A) → Ahead N e q ps → (v : Vec A) (bs : List (Bend A)) → Moves v (aim N e bs) → (end t q).point ≡ aim N e bs → NotOn t bs → Thread N e v (q ∷ ps) bs → ⊥
  no_stop t [] q h v bs mv is off (pass c arrive) = no_front_end K t q (subst (Front N q) (sym is) h)
  no_stop t (q' ∷ ps) q h v bs mv is off (pass c st) = elim (keeps K t q q' h.0) [
    | inl k ↦ no_stop t ps q' h.1 v bs mv (ap (λ m. m.point) k.0 ∙ is) off st
    | inr k ↦ never_behind q' ps h.1 v bs mv (subst (Behind N q') is (behind_replaced K t q q' k)) st
  ]
  no_stop t ps q h v bs₀ mv is off (bend_at {b = b} {bs = bs} c at tu st) = two_ends K t e q ps h (ap (λ m. m.point) (ap (λ r. end r q) (sym off) ∙ at) ∙ sym is)

  -- ---- w lies beyond x: the string may as well start at x
  module _ (v x : Vec A) (t : Side) (h : Vec A) where
    same_line : (s : Side) (w : Vec A) → veer N s (v ⟶ w) (v ⟶ x) ≡ 𝟘 → veer N s (v ⟶ w) (x ⟶ w) ≡ 𝟘
    same_line s w z = lies K s v w x ∙ ap -◌ z ∙ neg_nil R

    module _ (w : Vec A) (line : veer N t (v ⟶ w) (v ⟶ x) ≡ 𝟘) (vh : Pos (veer N t (v ⟶ w) h)) (xh : Pos (veer N t (x ⟶ w) h)) where
      from_x : (s : Side) (k : Vec A) → Nn N (veer N s (v ⟶ w) k) → Nn N (veer N s (x ⟶ w) k)
      from_x s k n = along_nn K t s (v ⟶ w) h (x ⟶ w) k (same_line t w line) vh xh n

      crosses_x : (p : Portal A) → Crosses N v w p → Crosses N x w p
      crosses_x p c s = nn_eq K (sym (from_head K s x w (end s p).point)) (from_x s (w ⟶ (end s p).point) (nn_eq K (from_head K s v w (end s p).point) (c s)))

      turns_x : (s : Side) (u : Vec A) → Turns N s v w u → Turns N s x w u
      turns_x s u tu = along_pos K t s (v ⟶ w) h (x ⟶ w) (w ⟶ u) (same_line t w line) vh xh tu

    restart : {ps : List (Portal A)} {bs : List (Bend A)} → veer N t (v ⟶ aim N e bs) (v ⟶ x) ≡ 𝟘 → Pos (veer N t (v ⟶ aim N e bs) h) → Pos (veer N t (x ⟶ aim N e bs) h) → Thread N e v ps bs → Thread N e x ps bs
    restart line vh xh arrive = arrive
    restart line vh xh (pass {p = p} {bs = bs} c st) = pass (crosses_x (aim N e bs) line vh xh p c) (restart line vh xh st)
    restart line vh xh (bend_at {p = p} {b = b} {bs = bs} c is tu st) = bend_at (crosses_x b.vertex.point line vh xh p c) is (turns_x b.vertex.point line vh xh b.side (aim N e bs) tu) st

  -- the direction is met on the way round x: t is the side of x in q, and c the corner of the triangle that q has left behind
  meets_run : (t : Side) (x c : Vec A) (q : Portal A) (ps : List (Portal A)) (h : Ahead N e q ps) (bs : List (Bend A)) → (end t q).point ≡ x → Nn N (veer N t (x ⟶ aim N e bs) (x ⟶ c)) → Pos (veer N (other t) (x ⟶ (end (other t) q).point) (x ⟶ c))
      → Thread N e x (q ∷ ps) bs → Within N t (x ⟶ aim N e bs) (x ⟶ (end (other t) q).point) (rays K e t x q ps h)
  meets_run t x c q ps h bs is on tri (pass cr st) = within K e t x q ps h is bs st cr
  meets_run t x c q ps h bs₀ is on tri (bend_at {b = b} {bs = bs} cr at tu st) = absurd (elim (which t b.side) [
    | inl s ↦
        let w_is : b.vertex.point ≡ x = ap (λ m. m.point) (sym at ∙ ap (λ r. end r q) s) ∙ is in
        pos_nil (pos_eq K (still K b.side x (x ⟶ aim N e bs)) (subst (λ u. Pos (veer N b.side (x ⟶ u) (u ⟶ aim N e bs))) w_is tu))
    | inr s ↦
        let w_is : b.vertex.point ≡ (end (other t) q).point = ap (λ m. m.point) (sym at ∙ ap (λ r. end r q) s) in
        (subst (λ u. Nn N (veer N t (x ⟶ u) (x ⟶ c))) w_is on).not_neg (pos_eq K (swap K t (x ⟶ (end (other t) q).point) (x ⟶ c) ∙ sym (back K t (x ⟶ (end (other t) q).point) (x ⟶ c))) tri)
  ])

  -- ---- directions met in a row that is read from its middle
  abbrev MetRow : List (Vec A) → List (Vec A) → Type 0
  MetRow us [] = ⊥
  MetRow us (h ∷ rs) = Met N Left us h rs

  met_further : (u : Vec A) (us : List (Vec A)) (rs : List (Vec A)) (s : Vec A) (tail : List (Vec A)) → Met N Left (u ∷ us) s tail → MetRow (u ∷ us) (reverse_aux rs (s ∷ tail))
  met_further u us [] s tail m = m
  met_further u us (r ∷ rs) s tail m = met_further u us rs r (s ∷ tail) (inr m)

  met_back : (u w : Vec A) (us : List (Vec A)) (rs : List (Vec A)) (r : Vec A) (tail : List (Vec A)) → Within N Right u r rs → Met N Left (w ∷ us) r tail → MetRow (u ∷ w ∷ us) (reverse_aux rs (r ∷ tail))
  met_back u w us [] r tail i m = absurd i
  met_back u w us (s ∷ rs) r tail (inl i) m = met_further u (w ∷ us) rs s (r ∷ tail) (inl ((i.1, i.0), m))
  met_back u w us (s ∷ rs) r tail (inr i) m = met_back u w us rs s (r ∷ tail) i (inr m)

  met_last : (u r : Vec A) (rs : List (Vec A)) → Within N Left u r rs → Met N Left (u ∷ []) r rs
  met_last u r [] i = absurd i
  met_last u r (s ∷ []) (inl i) = inl (i, tt)
  met_last u r (s ∷ q ∷ rs) (inl i) = inl (i, tt)
  met_last u r (s ∷ rs) (inr i) = inr (met_last u s rs i)

  row_again : (u w : Vec A) (row : List (Vec A)) → ¬ (u ≡ origin N) → Fan N Left row → MetRow (u ∷ w ∷ u ∷ []) row → ⊥
  row_again u w [] ne f m = m
  row_again u w (h ∷ rs) ne f m = not_again K Left u w h rs ne f m

  -- in a row of rays round x, from the last ray of the first run over l and r to the last of the second
  round_x : (u l r : Vec A) (rs₁ rs₂ : List (Vec A)) → ¬ (u ≡ origin N) → Fan N Left (reverse (l ∷ rs₁) ++ (r ∷ rs₂)) → Within N Right u l rs₁ → Within N Left u r rs₂ → Nn N (veer N Left u l) → Nn N (veer N Right u r) → ⊥
  round_x u l r rs₁ rs₂ ne f in₁ in₂ ul ur =
      row_again u (opposite N u) (reverse_aux rs₁ (l ∷ r ∷ rs₂)) ne (subst (Fan N Left) (onto rs₁ (l ∷ []) (r ∷ rs₂)) f)
      (met_back u (opposite N u) (u ∷ []) rs₁ l (r ∷ rs₂) in₁ (inl ((nn_eq K (flipped K Right l u) ul, nn_eq K (flipped K Left r u) ur), met_last u r rs₂ in₂)))
    where
      onto : (xs ys zs : List (Vec A)) → reverse_aux xs ys ++ zs ≡ reverse_aux xs (ys ++ zs)
      onto [] ys zs = refl
      onto (x ∷ xs) ys zs = onto xs (x ∷ ys) zs

  -- ---- the fork
  module _ (q₁ q₂ : Portal A) (ps₁ ps₂ : List (Portal A)) (h₁ : Ahead N e q₁ ps₁) (h₂ : Ahead N e q₂ ps₂) (shared : q₁.right ≡ q₂.left)
      (tri : Pos (veer N Left (q₁.right.point ⟶ q₁.left.point) (q₁.right.point ⟶ q₂.right.point))) (fan : OneFan N e q₁ ps₁ q₂ ps₂)
      (v : Vec A) (bs : List (Bend A)) (mv : Moves v (aim N e bs)) (st₁ : Thread N e v (q₁ ∷ ps₁) bs) (st₂ : Thread N e v (q₂ ∷ ps₂) bs) where
    abbrev w : Vec A
    w = aim N e bs

    abbrev x : Vec A
    x = q₁.right.point

    abbrev l : Vec A
    l = q₁.left.point

    abbrev r : Vec A
    r = q₂.right.point

    abbrev d : Vec A
    d = v ⟶ w

    at_x : q₂.left.point ≡ x
    at_x = ap (λ m. m.point) (sym shared)

    -- x lies on the line
    x_right : Nn N (veer N Right d (v ⟶ x))
    x_right = crossing N st₁ Right

    x_left : Nn N (veer N Left d (v ⟶ x))
    x_left = subst (λ u. Nn N (veer N Left d (v ⟶ u))) at_x (crossing N st₂ Left)

    on_line_x : veer N Left d (v ⟶ x) ≡ 𝟘
    on_line_x = elim (nn_split K x_left) [ inl g ↦ absurd (x_right.not_neg (pos_eq K (sym (back K Left (v ⟶ x) d)) g)) | inr z ↦ z ]

    off_l : Nn N (veer N Left d (x ⟶ l))
    off_l = nn_eq K (past_line K Left v w x l) (nn_add K (crossing N st₁ Left) x_right)

    off_r : Nn N (veer N Right d (x ⟶ r))
    off_r = nn_eq K (past_line K Right v w x r) (nn_add K (crossing N st₂ Right) x_left)

    line : (t : Side) → veer N t d (v ⟶ x) ≡ 𝟘
    line Left = on_line_x
    line Right = zero_back K Left d (v ⟶ x) on_line_x

    -- seen along d with the witness h: w is x
    at_w : (t : Side) (h : Vec A) → Pos (veer N t d h) → veer N t (w ⟶ x) h ≡ 𝟘 → x ≡ w
    unfolding ◌⇢◌
    at_w t h dh z =
        let is : (w ⟶ x) ≡ origin N = axes K t (w ⟶ x) (λ y. along_both K t d h (w ⟶ x) y dh (line_w t) z) in
        same_vector R (sub_nil R x.x w.x (ap (λ u. u.x) is)) (sub_nil R x.y w.y (ap (λ u. u.y) is))
      where
        line_w : (t : Side) → veer N t d (w ⟶ x) ≡ 𝟘
        line_w t = sym (from_head K t v w x) ∙ line t

    stops_at_x : x ≡ w → ⊥
    stops_at_x is = by bs refl
      where
        by : (cs : List (Bend A)) → cs ≡ bs → ⊥
        by [] same = no_stop Left ps₂ q₂ h₂ v bs mv (at_x ∙ is) (subst (NotOn Left) same tt) st₂
        by (b ∷ cs) same = elim (which Left b.side) [
          | inl s ↦ no_stop Right ps₁ q₁ h₁ v bs mv is (subst (NotOn Right) same s) st₁
          | inr s ↦ no_stop Left ps₂ q₂ h₂ v bs mv (at_x ∙ is) (subst (NotOn Left) same s) st₂
        ]

    beyond : (t : Side) (h : Vec A) → Pos (veer N t d h) → Pos (veer N t (x ⟶ w) h) → ⊥
    beyond t h dh xh =
        let go₁ : Thread N e x (q₁ ∷ ps₁) bs = restart v x t h (line t) dh xh st₁ in
        let go₂ : Thread N e x (q₂ ∷ ps₂) bs = restart v x t h (line t) dh xh st₂ in
        let ul : Nn N (veer N Left (x ⟶ w) (x ⟶ l)) = from_x v x t h w (line t) dh xh Left (x ⟶ l) off_l in
        let ur : Nn N (veer N Right (x ⟶ w) (x ⟶ r)) = from_x v x t h w (line t) dh xh Right (x ⟶ r) off_r in
        let f : Fan N Left (reverse ((x ⟶ l) ∷ rays K e Right x q₁ ps₁ h₁) ++ ((x ⟶ r) ∷ rays K e Left x q₂ ps₂ h₂)) =
        subst (λ u. Fan N Left (reverse ((x ⟶ l) ∷ rays K e Right x q₁ ps₁ h₁) ++ ((u ⟶ r) ∷ rays K e Left x q₂ ps₂ h₂))) at_x (fan (rays K e Right x q₁ ps₁ h₁) (rays K e Left x q₂ ps₂ h₂) (run_rays K e Right x q₁ ps₁ h₁ refl) (run_rays K e Left x q₂ ps₂ h₂ at_x)) in
        round_x (x ⟶ w) (x ⟶ l) (x ⟶ r) (rays K e Right x q₁ ps₁ h₁) (rays K e Left x q₂ ps₂ h₂) (λ is. pos_nil (pos_eq K (no_turn_of t h) (subst (λ u. Pos (veer N t u h)) is xh))) f
        (meets_run Right x r q₁ ps₁ h₁ bs refl ur tri go₁) (meets_run Left x l q₂ ps₂ h₂ bs at_x ul tri go₂) ul ur
      where
        no_turn_of : (t : Side) (h : Vec A) → veer N t (origin N) h ≡ 𝟘
        no_turn_of Left h = no_way Right h
        no_turn_of Right h = no_way Left h

    -- the triangle's corner on side t is off the line; q has it and x
    compare : (t : Side) (q : Portal A) (ps : List (Portal A)) → Ahead N e q ps → (end (other t) q).point ≡ x → Pos (veer N t d (x ⟶ (end t q).point)) → Thread N e v (q ∷ ps) bs → ⊥
    compare t q ps hq is off st =
        let far : Vec A = (end t q).point in
        let a : A = veer N t (w ⟶ x) (x ⟶ far) in
        let off_w : Pos (veer N t d (w ⟶ far)) = pos_eq K (away t far) off in
        elim (K.laws.order.trichotomy a) [
          | inl before ↦ never_reached K e ps q hq v bs (record {
            side = t;
            h = x ⟶ far;
            on = off;
            faces = all_faces K t q w (subst (λ u. Nn N (veer N t (w ⟶ u) (w ⟶ far))) (sym is) (nn_eq K (sym (from_head K t w x far)) (nn_pos K before)));
            ahead = both t (λ s. veer N s d (w ⟶ (end s q).point) ≡ 𝟘 → Pos (veer N t (w ⟶ (end s q).point) (x ⟶ far))) (λ z. absurd (pos_nil (pos_eq K z off_w))) (λ z. subst (λ u. Pos (veer N t (w ⟶ u) (x ⟶ far))) (sym is) before);
          }) st
          | inr (inl z) ↦ stops_at_x (at_w t (x ⟶ far) off z)
          | inr (inr after) ↦ beyond t (x ⟶ far) off (pos_eq K (turn_round K t w x (x ⟶ far)) after)
        ]
      where
        away : (t : Side) (far : Vec A) → veer N t d (x ⟶ far) ≡ veer N t d (w ⟶ far)
        away t far = sym (past_line K t v w x far) ∙ ap (λ a. veer N t d (v ⟶ far) + a) (zero_back K t d (v ⟶ x) (line t)) ∙ R.laws.add_nil (veer N t d (v ⟶ far)) ∙ from_head K t v w far

    pub no_fork : ⊥
    no_fork = elim (nn_split K off_l) [
      | inl l⁺ ↦ compare Left q₁ ps₁ h₁ refl l⁺ st₁
      | inr zl ↦ elim (nn_split K off_r) [
        | inl r⁺ ↦ compare Right q₂ ps₂ h₂ at_x r⁺ st₂
        | inr zr ↦ mv (axes K Left d (λ y. along_both K Left (x ⟶ l) (x ⟶ r) d y tri (zero_back K Left d (x ⟶ l) zl) (zero_back K Right d (x ⟶ r) zr ∙ refl)))
      ]
    ]
