-- The front lemma. Directions z and a from a vertex, z before a, both cross a portal, whose ends are seen in their order; x lies beyond the portal.
-- If x is not beyond a, it is strictly beyond z. One identity of six products, of which five have a known sign.
use Rattle.std.proofs.Common.{inl, inr}
use Rattle.algebra.specs.Arithmetic.{Arithmetic, Nn}
use Rattle.algebra.specs.Plane.{Vec}
use Rattle.algebra.proofs.RingSolver.{CommRing}
use Rattle.algebra.proofs.OrderedRing.{OrderedRing, base, pos_eq, nn_eq, sign', signs}
use Rattle.taut.specs.declared.Side.{Side}
use Rattle.taut.specs.Sleeve.{veer}
use Rattle.taut.proofs.Veer.{back, six_terms}

module _ (K : OrderedRing) where
  abbrev N : Arithmetic
  N = K.numbers

  abbrev R : CommRing
  R = base K

  open N use {carrier as A, Pos}
  open N.ops use {nil as 𝟘, add as ◌+◌, mul as ◌*◌, neg as -◌}
  open K.laws.order use {pos_nil}

  infixl 65 ◌+◌
  infixl 70 ◌*◌
  infix 75 -◌
  -- a portal seen from a vertex: n is its end on side t, o the other; it is crossed by a direction
  pub record Seen (t : Side) (a n o : Vec A) : Type 0 where
    pub near : Nn N (veer N t a n)
    pub far : Nn N (veer N t o a)

  -- x lies in front of it
  abbrev pub Fore : Side → Vec A → Vec A → Vec A → Type 0
  Fore t n o x = Pos (veer N t n o + veer N t o x + veer N t x n)

  -- in an open wedge from z to a: what is not beyond a is strictly before z
  pub fore : (t : Side) (z a n o x : Vec A) → Pos (veer N t z a) → Seen t z n o → Seen t a n o → Nn N (veer N t o n) → Fore t n o x → Nn N (veer N t a x) → Pos (veer N t z x)
  fore t z a n o x za sz sa on fx ax = elim (sign' K (veer N t z x)) [
    | inl p ↦ p
    | inr q ↦
        let xz : Nn N (veer N t x z) = nn_eq K (back K t z x) q in
        let zn : Nn N (veer N t z n) = sz.near in
        let oz : Nn N (veer N t o z) = sz.far in
        let an : Nn N (veer N t a n) = sa.near in
        let oa : Nn N (veer N t o a) = sa.far in
        absurd (pos_nil (pos_eq K (six_terms K t z a n o x) (search signs depth 12 fits 4000)))
  ]
