-- The portals of a reduced walk between terminals make a sleeve, and its runs make fans (`sleeve_law`); so it has exactly one taut string (`exactly_one`).
use Rattle.std.proofs.Common.{List, [], ◌∷◌, sym, ap, subst, arith}
use Rattle.base.specs.declared.ids.TriangleId.{TriangleId}
use Rattle.base.specs.Ids.{triangle_of, next}
use Rattle.algebra.specs.Number.{quadratics, sign}
use Rattle.algebra.proofs.OrderedRing.{pos_eq}
use Rattle.algebra.proofs.Quadratics.{quadratic_ring}
use Rattle.geometry.specs.Plane.{Point}
use Rattle.words.specs.declared.sorts.Crossing.{Crossing}
use Rattle.words.specs.Sorts.{recrossed}
use Rattle.words.specs.Words.{Reduced}
use Rattle.taut.specs.declared.Side.TheVariants.{Left}
use Rattle.taut.specs.Sleeve.{Behind, Ahead, Sleeve}
use Rattle.taut.specs.Fan.{FanBound}
use Rattle.taut.specs.Funnel.{funnel}
use Rattle.taut.proofs.Veer.{cyc}
use Rattle.taut.proofs.AtNumbers.{existence_here, uniqueness_here}
use Rattle.mesh.specs.Surface.{Surface, spot}
use Rattle.mesh.specs.Sound.{Sound}
use Rattle.walks.specs.Walks.{Walk, portal_of, portals, Inside, Joins}
use Rattle.walks.specs.Laws.{SleeveLaw, ExactlyOne}
use Rattle.walks.proofs.Triangles.{inside_left}
use Rattle.walks.proofs.Crossings.{Crossed, in_front, goes_on_round, link}
use Rattle.walks.proofs.RunFans.{reduced_tail, crossed_next, fan_bound}

module _ (f : Surface) (sound : Sound f) where
  pub behind : (c : Crossing) (s : Point) → Inside f (triangle_of c.left) s → Behind quadratics (portal_of f c) s
  behind c s i = pos_eq quadratic_ring (cyc quadratic_ring Left (spot f c.left) (spot f (next c.left)) s) (inside_left f (triangle_of c.left) s i c.left (λ i. triangle_of c.left))

  ahead : (u : TriangleId) (e : Point) → Inside f u e → (c : Crossing) (w : List Crossing) → Crossed f c → Walk f (triangle_of c.entered) w u → Reduced recrossed (c ∷ w) → Ahead quadratics e (portal_of f c) (portals f w)
  ahead u e i c [] k walk r = in_front f sound c k e (inside_left f u e i c.entered walk)
  ahead u e i c (d ∷ w) k walk r = (
    link f sound c d k (goes_on_round f sound c d w k walk.0 walk.1 r),
    ahead u e i d w (crossed_next f sound c d k walk.0 walk.1) walk.2 (reduced_tail c (d ∷ w) r),
  )

  pub sleeve_of : (t u : TriangleId) (s e : Point) (w : List Crossing) → Joins f t s w u e → Sleeve quadratics s (portals f w) e × FanBound quadratics s (portals f w) e
  sleeve_of t u s e [] j = (tt, tt)
  sleeve_of t u s e (c ∷ w) j =
      let from = j.walk.0 in
      let q = ap (λ x. x.0) from in
      let k : Crossed f c = record { has = omega (arith, j.within); twin = j.walk.1 } in
      let start : Inside f (triangle_of c.left) s = subst (λ x. Inside f x s) (sym from) j.start in (
        (behind c s start, ahead u e j.finish c w k j.walk.2 j.reduced),
        fan_bound f sound u e j.finish s c w k start j.walk.2 j.reduced,
      )

pub sleeve_law : SleeveLaw
sleeve_law f sound t u s e w j = sleeve_of f sound t u s e w j

pub exactly_one : ExactlyOne
exactly_one f sound t u s e w j =
    let law = sleeve_of f sound t u s e w j in
    let taut = existence_here s e (portals f w) law.0 law.1 in
    (taut, λ bs other. uniqueness_here s e (portals f w) bs (funnel quadratics sign s (portals f w) e) law.0 other taut)
