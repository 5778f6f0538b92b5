-- A chain cut at one of its corners: what lies after the corner is final, and the corner is a bend and the apex (`shorten`).
-- `outcome` tells from the relation `Cuts` what becomes of the far chain.
use Rattle.std.proofs.Common.{◌≡◌, List, [], ◌∷◌, ◌++◌, sym, refl, ap, ◌∙◌, subst}
use Rattle.algebra.specs.Arithmetic.{Arithmetic, Nn}
use Rattle.algebra.specs.Plane.{Vec, ◌⟶◌ as ◌⇢◌}
use Rattle.algebra.proofs.RingSolver.{CommRing}
use Rattle.algebra.proofs.OrderedRing.{OrderedRing, base, nn_eq, nn_pos}
use Rattle.taut.specs.declared.Side.{Side}
use Rattle.taut.specs.Sleeve.{Vertex, Portal, veer}
use Rattle.taut.specs.TautString.{Bend, Crosses, Turns, aim}
use Rattle.taut.specs.Funnel.{bends, next}
use Rattle.taut.proofs.Veer.{popped}
use Rattle.taut.proofs.Settling.{Straight, Cuts, no_chain, passed, halts, stands}
use Rattle.taut.proofs.Chains.{crosses_between, last, Stem, at_bend, Passes, Arm, stop, over, hook, Convex, next_is, thread_of, out}

module _ (K : OrderedRing) (e : Vec K.numbers.carrier) (fb : List (Bend K.numbers.carrier)) (rest : List (Portal K.numbers.carrier)) (s τ : Side) where
  abbrev N : Arithmetic
  N = K.numbers

  abbrev R : CommRing
  R = base K

  open N use {carrier as A, Pos}

  infix 73 ◌⟶◌
  abbrev ◌⟶◌ : Vec A → Vec A → Vec A
  v ⟶ w = ◌⇢◌ N v w

  -- the chain x, pre, top, after; top becomes the apex; y comes to it between the edges before and after it
  module _ (y : Vec A) (top : Vertex A) (after : List (Vertex A)) where
    abbrev pub fb' : List (Bend A)
    fb' = bends s (top ∷ after) ++ fb

    -- the chain is `pre`, top, `after`
    pub data Splits : List (Vertex A) → List (Vertex A) → Type 0 where
      here : Splits (top ∷ after) []
      there : {d : Vertex A} {cs pre : List (Vertex A)} → Splits cs pre → Splits (d ∷ cs) (d ∷ pre)

    pub split : (rest' : List (Portal A)) (q : Portal A) (x : Vec A) {cs pre : List (Vertex A)} → Splits cs pre → Passes K e fb rest s q x cs → Passes K e fb' rest' s q x pre × Crosses N (last K x pre) top.point q × Crosses N top.point (next N e after fb) q
    split rest' q x here h = (h.0, h.0, out K e fb rest s q top.point after h.1)
    split rest' q x (there {d = d} sp) h = let r = split rest' q d.point sp h.1 in ((h.0, r.0), r.1, r.2)

    abbrev pub Comes : Vec A → Type 0
    Comes x = Turns N s x top.point (next N e after fb) × Nn N (veer N s (x ⟶ top.point) (y ⟶ top.point)) × Turns N s y top.point (next N e after fb)

    pub comes : (q : Portal A) (x : Vec A) → Comes x → Crosses N x top.point q → Crosses N top.point (next N e after fb) q → Crosses N y top.point q
    comes q x c = crosses_between K s x top.point (next N e after fb) y q c.0 c.1 (nn_pos K c.2)

    pub record Short (x : Vec A) (pre : List (Vertex A)) (qs : List (Portal A)) : Type 0 where
      pub ps₁ : List (Portal A)
      pub rest' : List (Portal A)
      pub same : qs ++ rest ≡ ps₁ ++ rest'
      pub stem : Stem K e fb' rest'
      pub far : Arm K e fb' rest' s x pre ps₁
      pub near : Arm K e fb' rest' τ y [] ps₁

    pub shorten : {x : Vec A} {cs : List (Vertex A)} {qs : List (Portal A)} (pre : List (Vertex A)) → Splits cs pre → Stem K e fb rest → Convex K e fb rest s top.point after → Comes (last K x pre) → Arm K e fb rest s x cs qs → Short x pre qs
    shorten pre sp st cv c (over {x = x} {cs = cs} {q = q} {ps = ps} h a) =
        let r : Short x pre ps = shorten pre sp st cv c a in
        let m = split r.rest' q x sp h in
        record { ps₁ = q ∷ r.ps₁; rest' = r.rest'; same = ap (λ l. q ∷ l) r.same; stem = r.stem; far = over m.0 r.far; near = over (comes q (last K x pre) c m.1 m.2) r.near }
    shorten pre here st cv c (hook {x = x} {q = q} {ps = ps} h is a) =
        let m = split [] q x here h in
        record { ps₁ = []; rest' = q ∷ (ps ++ rest); same = refl; stem = at_bend is (thread_of K e fb rest s st a cv); far = stop m.1; near = stop (comes q x c m.1 m.2) }
    shorten pre (there {d = d} {pre = pre'} sp) st cv c (hook {x = x} {q = q} {ps = ps} h is a) =
        let r : Short d.point pre' ps = shorten pre' sp st cv c a in
        let m = split r.rest' q x (there {d = d} sp) h in
        record { ps₁ = q ∷ r.ps₁; rest' = r.rest'; same = ap (λ l. q ∷ l) r.same; stem = r.stem; far = hook m.0 is r.far; near = over (comes q (last K d.point pre') c m.1 m.2) r.near }
    shorten pre sp st cv c (stop _) = elim sp [ ]

    next_splits : (rest' : List (Portal A)) {cs pre : List (Vertex A)} → Splits cs pre → next N e cs fb ≡ next N e pre fb'
    next_splits rest' here = refl
    next_splits rest' (there sp) = refl

    pub convex_splits : (rest' : List (Portal A)) (x : Vec A) {cs pre : List (Vertex A)} → Splits cs pre → Convex K e fb rest s x cs → Convex K e fb' rest' s x pre
    convex_splits rest' x here cv = subst (Turns N s x top.point) (next_is K e fb rest s after) cv.0
    convex_splits rest' x (there {d = d} sp) cv = (subst (Turns N s x d.point) (next_splits rest' sp) cv.0, convex_splits rest' d.point sp cv.1)

  -- ---- what becomes of the far chain, from x over ds to the apex: all of it is passed, or y sees the apex, or a corner of it becomes the apex
  pub data Outcome (y : Vec A) (x : Vertex A) (ds : List (Vertex A)) : List (Bend A) → List (Vertex A) → Type 0 where
    gone : Turns N s y x.point (next N e ds fb) → Outcome y x ds (bends s (x ∷ ds) ++ fb) []
    seen : Nn N (veer N s (last K x.point ds ⟶ aim N e fb) (y ⟶ aim N e fb)) → Outcome y x ds fb (x ∷ ds)
    cut_at : (top : Vertex A) (after pre : List (Vertex A)) → Splits y top after ds pre → Comes y top after (last K x.point pre) → Convex K e fb rest s top.point after → Outcome y x ds (bends s (top ∷ after) ++ fb) (x ∷ pre)

  -- the corners that are passed are bends
  all_passed : (y : Vec A) (ds : List (Vertex A)) (fb' : List (Bend A)) → Cuts K e s y fb ds fb' [] → fb' ≡ bends s ds ++ fb
  all_passed y [] fb' no_chain = refl
  all_passed y (d ∷ ds) fb' (passed {fb' = fb₁} c tu) = ap (λ bs. record { side = s; vertex = d } ∷ bs) (all_passed y ds fb₁ c)

  further : (y : Vec A) (x d k : Vertex A) (ds ks : List (Vertex A)) (fb' : List (Bend A)) → Outcome y d ds fb' (k ∷ ks) → Outcome y x (d ∷ ds) fb' (x ∷ k ∷ ks)
  further y x d k ds ks fb' (seen h) = seen h
  further y x d k ds ks fb' (cut_at top after pre sp c cv) = cut_at top after (d ∷ pre) (there sp) c cv

  aim_next : (ds : List (Vertex A)) (fb' : List (Bend A)) → fb' ≡ bends s ds ++ fb → aim N e fb' ≡ next N e ds fb
  aim_next ds fb' is = ap (aim N e) is ∙ sym (next_is K e fb rest s ds)

  halted : (y : Vec A) (x : Vertex A) (ds : List (Vertex A)) (fb' : List (Bend A)) → Convex K e fb rest s x.point ds → Cuts K e s y fb ds fb' [] → Straight K s y x.point (aim N e fb') → Outcome y x ds fb' (x ∷ [])
  halted y x [] fb' cv no_chain un = seen (nn_eq K (popped K s y x.point (aim N e fb)) un)
  halted y x (d ∷ ds) fb' cv (passed {fb' = fb₁} c tu) un =
      let is : fb₁ ≡ bends s ds ++ fb = all_passed y ds fb₁ c in
      subst (λ bs. Outcome y x (d ∷ ds) (record { side = s; vertex = d } ∷ bs) (x ∷ [])) (sym is)
      (cut_at d ds [] here (cv.0, nn_eq K (popped K s y x.point d.point) un, subst (Turns N s y d.point) (aim_next ds fb₁ is) tu) cv.1)

  pub outcome : (y : Vec A) (x : Vertex A) (ds : List (Vertex A)) (fb' : List (Bend A)) (rem : List (Vertex A)) → Convex K e fb rest s x.point ds → Cuts K e s y fb (x ∷ ds) fb' rem → Outcome y x ds fb' rem
  outcome y x ds fb' rem cv (passed {fb' = fb₁} c tu) =
      let is : fb₁ ≡ bends s ds ++ fb = all_passed y ds fb₁ c in
      subst (λ bs. Outcome y x ds (record { side = s; vertex = x } ∷ bs) []) (sym is) (gone (subst (Turns N s y x.point) (aim_next ds fb₁ is) tu))
  outcome y x ds fb' rem cv (halts c un) = halted y x ds fb' cv c un
  outcome y x [] fb' rem cv (stands c) = elim c [ ]
  outcome y x (d ∷ ds) fb' rem cv (stands {k = k} {ks = ks} c) = further y x d k ds ks fb' (outcome y d ds fb' (k ∷ ks) cv.1 c)
