-- Every bend that the funnel finds is an end of one of the portals: what holds of all their ends holds of all bends.
use Rattle.std.proofs.Common.{List, [], ◌∷◌, ◌++◌, reverse}
use mathlib.Core.List.{reverse_aux}
use Rattle.algebra.specs.Arithmetic.{Arithmetic}
use Rattle.algebra.specs.Plane.{Vec}
use Rattle.algebra.specs.declared.Sign.{Sign}
use Rattle.taut.specs.declared.Side.{Side}
use Rattle.taut.specs.declared.Side.TheVariants.{Left, Right}
use Rattle.taut.specs.Sleeve.{other, Vertex, Portal}
use Rattle.taut.specs.TautString.{Bend, aim}
use Rattle.taut.specs.Funnel.{Funnel, bears, next, advance, settle, push, flip, gain, funnel_at, bends, funnel}
use Rattle.taut.proofs.FunnelSize.{of_either}

abbrev pub Each : {X : Type 0} → (X → Type 0) → List X → Type 0
Each Q [] = Unit {0}
Each Q (x ∷ xs) = Q x × Each Q xs

each_append : {X : Type 0} (Q : X → Type 0) (xs ys : List X) → Each Q xs → Each Q ys → Each Q (xs ++ ys)
each_append Q [] ys all more = more
each_append Q (x ∷ xs) ys (here, all) more = (here, each_append Q xs ys all more)

each_onto : {X : Type 0} (Q : X → Type 0) (xs ys : List X) → Each Q xs → Each Q ys → Each Q (reverse_aux xs ys)
each_onto Q [] ys all more = more
each_onto Q (x ∷ xs) ys (here, all) more = each_onto Q xs (x ∷ ys) all (here, more)

each_reverse : {X : Type 0} (Q : X → Type 0) (xs : List X) → Each Q xs → Each Q (reverse xs)
each_reverse Q xs all = each_onto Q xs [] all tt

module _ {A : Type 0} (Q : Vertex A → Type 0) where
  pub record Made (f : Funnel A) : Type 0 where
    pub nears : Each Q f.near
    pub finals : Each (λ b. Q b.vertex) f.final
    pub fars : Each Q f.far

  -- both ends of each portal
  abbrev pub Ends : List (Portal A) → Type 0
  Ends ps = Each (λ p. Q p.left × Q p.right) ps

  made_push : (v : Vertex A) (f : Funnel A) → Q v → Made f → Made (push v f)
  made_push v f here m = record { nears = (here, m.nears); finals = m.finals; fars = m.fars }

  made_flip : (f : Funnel A) → Made f → Made (flip f)
  made_flip f m = record { nears = each_reverse Q f.far m.fars; finals = m.finals; fars = each_reverse Q f.near m.nears }

  made_bends : (t : Side) (cs : List (Vertex A)) → Each Q cs → Each (λ b. Q b.vertex) (bends t cs)
  made_bends t [] all = tt
  made_bends t (c ∷ cs) (here, all) = (here, made_bends t cs all)

module _ (N : Arithmetic) (sign : N.carrier → Sign) (Q : Vertex N.carrier → Type 0) where
  open N use {carrier as A}

  module _ (e : Vec A) where
    advanced : (t : Side) (y : Vec A) (fb : List (Bend A)) (zs : List (Vertex A)) → Each (λ b. Q b.vertex) fb → Each Q zs → Made Q (advance N sign e t y fb zs)
    advanced t y fb [] finals fars = record { nears = tt; finals = finals; fars = tt }
    advanced t y fb (z ∷ zs) finals (here, fars) =
        of_either (Made Q) (bears N sign (other t) y z.point (aim N e fb)) _ _
        (advanced t y (record { side = other t; vertex = z } ∷ fb) zs (here, finals) fars) (record { nears = tt; finals = finals; fars = (here, fars) })

    settled : (t : Side) (y : Vec A) (cs : List (Vertex A)) (fb : List (Bend A)) (zs : List (Vertex A)) → Each Q cs → Each (λ b. Q b.vertex) fb → Each Q zs → Made Q (settle N sign e t y cs fb zs)
    settled t y [] fb zs nears finals fars = advanced t y fb zs finals fars
    settled t y (c ∷ cs) fb zs (here, nears) finals fars =
        of_either (Made Q) (bears N sign t y c.point (next N e cs fb)) _ _
        (record { nears = (here, nears); finals = finals; fars = fars }) (settled t y cs fb zs nears finals fars)

    gained : (t : Side) (v : Vertex A) (f : Funnel A) → Q v → Made Q f → Made Q (gain N sign e t v f)
    gained Left v f here m = made_push Q v _ here (settled Left v.point f.near f.final f.far m.nears m.finals m.fars)
    gained Right v f here m =
        let n = made_flip Q f m in
        made_flip Q _ (made_push Q v _ here (settled Right v.point (flip f).near f.final (flip f).far n.nears n.finals n.fars))

    funnel_at_made : (p : Portal A) (ps : List (Portal A)) → Ends Q (p ∷ ps) → Made Q (funnel_at N sign e p ps)
    funnel_at_made p [] ((l, r), all) = record { nears = (l, tt); finals = tt; fars = (r, tt) }
    funnel_at_made p (q ∷ ps) ((l, r), all) =
        let m = funnel_at_made q ps all in
        of_either (Made Q) _ _ _ (gained Right p.right (funnel_at N sign e q ps) r m) (gained Left p.left (funnel_at N sign e q ps) l m)

  pub funnel_made : (s : Vec A) (ps : List (Portal A)) (e : Vec A) → Ends Q ps → Each (λ b. Q b.vertex) (funnel N sign s ps e)
  funnel_made s [] e all = tt
  funnel_made s (p ∷ ps) e all =
      let f = funnel_at N sign e p ps in
      let m = funnel_at_made e p ps all in
      let g = settled e Left s f.near f.final f.far m.nears m.finals m.fars in
      each_append (λ b. Q b.vertex) (bends Left (settle N sign e Left s f.near f.final f.far).near) _ (made_bends Q Left _ g.nears) g.finals
