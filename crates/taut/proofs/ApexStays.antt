-- A new end that leaves the apex where it is: it hooks on to its own chain (`hooks`), or sees the apex inside the wedge (`sees`).
-- The invariant of both chains is kept (`Two`).
use Rattle.std.proofs.Common.{◌≡◌, List, [], ◌∷◌, sym, ap, ◌∙◌, subst}
use Rattle.algebra.specs.Arithmetic.{Arithmetic, Nn}
use Rattle.algebra.specs.Plane.{Vec, ◌⟶◌ as ◌⇢◌}
use Rattle.algebra.proofs.RingSolver.{CommRing}
use Rattle.algebra.proofs.OrderedRing.{OrderedRing, base, pos_eq, nn_eq, nn_nil}
use Rattle.taut.specs.declared.Side.{Side}
use Rattle.taut.specs.declared.Side.TheVariants.{Left, Right}
use Rattle.taut.specs.Sleeve.{other, Vertex, Portal, end, veer}
use Rattle.taut.specs.TautString.{Bend, Crosses, aim}
use Rattle.taut.proofs.Veer.{swap, self, to_head, fore_at}
use Rattle.taut.proofs.FrontLemma.{Seen, Fore}
use Rattle.taut.proofs.Chains.{seen_in, Faces, faces_next, faces_end, faces, last, Meets, TurnsAtApex, Passes, Arm, stop, over, Convex, drop, LastOn, crosses_new, Wing, first, Winged, stays}
use Rattle.taut.proofs.Wedge.{Wedge, transfer, Inside, inside}

module _ (K : OrderedRing) (e : Vec K.numbers.carrier) (fb : List (Bend K.numbers.carrier)) (rest : List (Portal K.numbers.carrier)) where
  abbrev N : Arithmetic
  N = K.numbers

  abbrev R : CommRing
  R = base K

  open N use {carrier as A, Pos}
  open N.ops use {nil as 𝟘, neg as -◌}

  infix 75 -◌
  infix 73 ◌⟶◌
  abbrev ◌⟶◌ : Vec A → Vec A → Vec A
  v ⟶ w = ◌⇢◌ N v w

  abbrev v : Vec A
  v = aim N e fb

  -- both chains: cs from the end on side t, ds from the other
  pub record Two (t : Side) (p : Portal A) (ps : List (Portal A)) (cs ds : List (Vertex A)) : Type 0 where
    pub near : Wing K e fb rest t p ps cs
    pub far : Wing K e fb rest (other t) p ps ds
    pub gap : Wedge K t (last K (end t p).point cs ⟶ v) (last K (end (other t) p).point ds ⟶ v)

  -- ---- of the last edge of a chain
  last_crosses : (t : Side) (q : Portal A) (x : Vec A) (cs : List (Vertex A)) → Passes K e fb rest t q x cs → Crosses N (last K x cs) v q
  last_crosses t q x [] h = h
  last_crosses t q x (c ∷ cs) h = last_crosses t q c.point cs h.1

  apex_faces : (t : Side) (q : Portal A) (x : Vec A) (cs : List (Vertex A)) → Faces K q x → Passes K e fb rest t q x cs → Faces K q v
  apex_faces t q x [] f h = faces_next K x v q f h
  apex_faces t q x (c ∷ cs) f h = apex_faces t q c.point cs (faces_next K x c.point q f h.0) h.1

  last_turns : (t : Side) (x : Vec A) (cs : List (Vertex A)) → Convex K e fb rest t x cs → TurnsAtApex K e fb (last K x cs)
  last_turns t x [] h = h
  last_turns t x (c ∷ cs) h = last_turns t c.point cs h.1

  last_arm : (t : Side) (x : Vec A) (cs : List (Vertex A)) (qs : List (Portal A)) → Arm K e fb rest t x cs qs → Arm K e fb rest t (last K x cs) [] qs
  last_arm t x [] qs a = a
  last_arm t x (c ∷ cs) qs a = last_arm t c.point cs qs (drop K e fb rest t a)

  pub stays° : (t : Side) (p₀ p : Portal A) → end (other t) p ≡ end (other t) p₀ → Pos (veer N t ((end t p₀).point ⟶ (end (other t) p).point) ((end t p₀).point ⟶ (end t p).point)) → (ps : List (Portal A)) (ds : List (Vertex A)) → Wing K e fb rest (other t) p ps ds → LastOn K e fb rest (other t) t (end t p₀).point (end (other t) p).point ds → Wing K e fb rest (other t) p₀ (p ∷ ps) ds
  stays° Left = stays K e fb rest Right
  stays° Right = stays K e fb rest Left

  -- ---- two lines to the apex cross a portal: so does a line between them
  module _ (t : Side) (u w y : Vec A) (i : Inside K t (u ⟶ v) (w ⟶ v) (y ⟶ v)) where
    crosses_inside : (q : Portal A) → Crosses N u v q → Crosses N w v q → Crosses N y v q
    crosses_inside q hu hw = λ s. nn_eq K (sym (to_head K s y v (end s q).point)) (i.weak (other s) ((end s q).point ⟶ v) (nn_eq K (to_head K s u v (end s q).point) (hu s)) (nn_eq K (to_head K s w v (end s q).point) (hw s)))

    meets_inside : (qs : List (Portal A)) → Meets K e fb qs u → Meets K e fb qs w → Meets K e fb qs y
    meets_inside [] hu hw = tt
    meets_inside (q ∷ qs) hu hw = crosses_inside q hu hw

    merge : {qs : List (Portal A)} → Arm K e fb rest t u [] qs → Arm K e fb rest (other t) w [] qs → Arm K e fb rest t y [] qs
    merge (stop m) (stop n) = stop (meets_inside rest m n)
    merge (over {q = q} h a) (over k b) = over (crosses_inside q h k) (merge a b)

  turns_inside : (fs : List (Bend A)) (t : Side) (u w y : Vec A) → Inside K t (u ⟶ aim N e fs) (w ⟶ aim N e fs) (y ⟶ aim N e fs) → TurnsAtApex K e fs u → TurnsAtApex K e fs w → TurnsAtApex K e fs y
  turns_inside [] t u w y i hu hw = tt
  turns_inside (b ∷ bs) t u w y i hu hw = i.strict b.side (b.vertex.point ⟶ aim N e bs) hu hw

  -- ---- the step
  module _ (t : Side) (p₀ p : Portal A) (ps : List (Portal A)) (cs ds : List (Vertex A)) (two : Two t p ps cs ds)
      (kept : end (other t) p ≡ end (other t) p₀) (fr : Pos (veer N t ((end t p₀).point ⟶ (end (other t) p).point) ((end t p₀).point ⟶ (end t p).point))) where
    abbrev y : Vec A
    y = (end t p₀).point

    abbrev u : Vec A
    u = last K (end t p).point cs

    abbrev w : Vec A
    w = last K (end (other t) p).point ds

    abbrev n : Vec A
    n = (end t p).point ⟶ v

    abbrev o : Vec A
    o = (end (other t) p).point ⟶ v

    fx : Fore K (other t) n o (y ⟶ v)
    fx = pos_eq K (fore_at K t v (end t p).point (end (other t) p).point y) fr

    on : Nn N (veer N (other t) o n)
    on = faces K t p v (apex_faces t p (end t p).point cs (faces_end K t p) two.near.passes)

    su : Seen K (other t) (u ⟶ v) n o
    su = seen_in K t u v p (last_crosses t p (end t p).point cs two.near.passes)

    sw : Seen K (other t) (w ⟶ v) n o
    sw = seen_in K t w v p (last_crosses (other t) p (end (other t) p).point ds two.far.passes)

    same : last K (end (other t) p).point ds ≡ last K (end (other t) p₀).point ds
    same = ap (λ m. last K m.point ds) kept

    far_stays : Nn N (veer N (other t) (w ⟶ v) (y ⟶ v)) → Wing K e fb rest (other t) p₀ (p ∷ ps) ds
    far_stays h = stays° t p₀ p kept fr ps ds two.far (nn_eq K (sym (to_head K t w v y)) h)

    -- it is hooked on to a vertex of the chain on its side
    pub hooks : (c : Vertex A) (ks : List (Vertex A)) → Winged K e fb rest t u p₀ (p ∷ ps) (c ∷ ks) → Two t p₀ (p ∷ ps) (c ∷ ks) ds
    hooks c ks h = record {
      near = h.0;
      far = far_stays (transfer K t (u ⟶ v) (w ⟶ v) n o (y ⟶ v) two.gap su sw on fx (nn_eq K (to_head K t u v y) (subst (λ x. Nn N (veer N t (x ⟶ v) (x ⟶ y))) h.2 h.1)));
      gap = subst (λ x. Wedge K t (x ⟶ v) (last K (end (other t) p₀).point ds ⟶ v)) (sym h.2) (subst (λ x. Wedge K t (u ⟶ v) (x ⟶ v)) same two.gap);
    }

    -- nothing is left of that chain, and it sees the apex
    pub sees : Nn N (veer N t (u ⟶ v) (y ⟶ v)) → Nn N (veer N t (y ⟶ v) (w ⟶ v)) → Two t p₀ (p ∷ ps) [] ds
    sees uy yw =
        let i : Inside K t (u ⟶ v) (w ⟶ v) (y ⟶ v) = inside K t (u ⟶ v) (w ⟶ v) (y ⟶ v) n o su sw on fx uy yw two.gap in
        let arm : Arm K e fb rest t y [] (p ∷ ps) = merge t u w y i (last_arm t (end t p).point cs (p ∷ ps) (over two.near.passes two.near.arm)) (last_arm (other t) (end (other t) p).point ds (p ∷ ps) (over two.far.passes two.far.arm)) in
        record {
          near = record { arm = arm; passes = crosses_new K e fb rest t p₀ p kept fr y v (first K e fb rest t arm) (nn_eq K (sym (to_head K t y v y ∙ self K (other t) (y ⟶ v))) (nn_nil K)); convex = turns_inside fb t u w y i (last_turns t (end t p).point cs two.near.convex) (last_turns (other t) (end (other t) p).point ds two.far.convex) };
          far = far_stays (nn_eq K (sym (swap K t (w ⟶ v) (y ⟶ v))) yw);
          gap = subst (λ x. Wedge K t (y ⟶ v) (x ⟶ v)) same i.wedge;
        }
