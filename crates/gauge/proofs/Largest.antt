-- The measure of a row of forms is its largest value at the step, and the laws of gauges follow from that.
-- Rests on the order of the numbers p + q√2.
use Rattle.std.proofs.Common.{◌≡◌, ◌⊎◌, List, [], ◌∷◌, sym, refl, ap, ◌∙◌, subst, inl, inr}
use Rattle.algebra.specs.Arithmetic.{Nn}
use Rattle.algebra.specs.Number.{Number, sign, Signed, ◌⊕◌, ◌⊖◌, ◌⊛◌, quadratic_ops, quadratics}
use Rattle.algebra.specs.Order.{AtMost}
use Rattle.algebra.specs.Plane.{Vec, dot, plus, times}
use Rattle.algebra.specs.declared.Sign.{Sign}
use Rattle.algebra.specs.declared.Sign.TheVariants.{Minus, Zero, Plus}
use Rattle.algebra.proofs.RingSolver.{E, ◌:+◌, ◌:-◌, ◌:*◌, :-◌, ◌:=◌}
use Rattle.algebra.proofs.OrderedRing.{OrderedRing, base}
use Rattle.algebra.proofs.NumberOrder.{at_most_refl, at_most_trans, at_most_antisymm, at_most_add, at_most_mul, at_most_of_minus, at_most_of_zero, at_most_of_plus}
use Rattle.algebra.proofs.PlaneSolver.{ring_v}
use Rattle.algebra.proofs.Quadratics.{quadratic_ring, signs_say}
use Rattle.gauge.specs.Measure.{Form, at, choose, larger, top, measure, Among, opposite, Lawful}
use Rattle.gauge.specs.Laws.{Largest, GaugeLaws}

abbrev K : OrderedRing
K = quadratic_ring

-- ---- the larger of two
choose_first : (s : Sign) (a b : Number) → Signed s (a ⊖ b) → AtMost a (choose s a b)
choose_first Plus a b h = at_most_refl a
choose_first Zero a b h = at_most_of_zero a b h
choose_first Minus a b h = at_most_of_minus a b h

choose_second : (s : Sign) (a b : Number) → Signed s (a ⊖ b) → AtMost b (choose s a b)
choose_second Plus a b h = at_most_of_plus a b h
choose_second Zero a b h = at_most_refl b
choose_second Minus a b h = at_most_refl b

choose_is : (s : Sign) (a b : Number) → (choose s a b ≡ a) ⊎ (choose s a b ≡ b)
choose_is Plus a b = inl refl
choose_is Zero a b = inr refl
choose_is Minus a b = inr refl

pub larger_first : (a b : Number) → AtMost a (larger a b)
larger_first a b = choose_first (sign (a ⊖ b)) a b (signs_say (a ⊖ b))

pub larger_second : (a b : Number) → AtMost b (larger a b)
larger_second a b = choose_second (sign (a ⊖ b)) a b (signs_say (a ⊖ b))

pub larger_is : (a b : Number) → (larger a b ≡ a) ⊎ (larger a b ≡ b)
larger_is a b = choose_is (sign (a ⊖ b)) a b

-- ---- the largest of many
top_best : (b : Number) (fs : List Form) (v : Vec Number) → AtMost b (top b fs v)
top_best b [] v = at_most_refl b
top_best b (f ∷ fs) v = at_most_trans (larger_second (at f v) b) (top_best (larger (at f v) b) fs v)

top_above : (b : Number) (fs : List Form) (v : Vec Number) (f : Form) → Among f fs → AtMost (at f v) (top b fs v)
top_above b [] v f m = absurd m
top_above b (g ∷ fs) v f (inl e) = subst (λ h. AtMost (at h v) (top b (g ∷ fs) v)) (sym e) (at_most_trans (larger_first (at g v) b) (top_best (larger (at g v) b) fs v))
top_above b (g ∷ fs) v f (inr m) = top_above (larger (at g v) b) fs v f m

abbrev Reached : Number → List Form → Vec Number → Number → Type 0
Reached b fs v m = (m ≡ b) ⊎ ((f : Form) × Among f fs × (at f v ≡ m))

later : (b m : Number) (g : Form) (fs : List Form) (v : Vec Number) → Reached (larger (at g v) b) fs v m → Reached b (g ∷ fs) v m
later b m g fs v (inl e) = elim (larger_is (at g v) b) [ inl k ↦ inr (g, inl refl, sym (e ∙ k)) | inr k ↦ inl (e ∙ k) ]
later b m g fs v (inr (f, a, e)) = inr (f, inr a, e)

top_reached : (b : Number) (fs : List Form) (v : Vec Number) → Reached b fs v (top b fs v)
top_reached b [] v = inl refl
top_reached b (f ∷ fs) v = later b (top b (f ∷ fs) v) f fs v (top_reached (larger (at f v) b) fs v)

first_among : (f : Form) (fs : List Form) (v : Vec Number) (m : Number) → Reached (at f v) fs v m → (g : Form) × Among g (f ∷ fs) × (at g v ≡ m)
first_among f fs v m (inl e) = (f, inl refl, sym e)
first_among f fs v m (inr (g, a, e)) = (g, inr a, e)

all_bound : (f : Form) (fs : List Form) (v : Vec Number) (g : Form) → Among g (f ∷ fs) → AtMost (at g v) (top (at f v) fs v)
all_bound f fs v g (inl e) = subst (λ h. AtMost (at h v) (top (at f v) fs v)) (sym e) (top_best (at f v) fs v)
all_bound f fs v g (inr m) = top_above (at f v) fs v g m

pub largest : (f : Form) (fs : List Form) (v : Vec Number) → Largest (f ∷ fs) v (measure (f ∷ fs) v)
largest f fs v = record { reached = first_among f fs v (top (at f v) fs v) (top_reached (at f v) fs v); bounds = all_bound f fs v }

-- a row has one largest value
pub only_largest : {fs : List Form} {v : Vec Number} {m n : Number} → Largest fs v m → Largest fs v n → m ≡ n
only_largest {fs} {v} {m} {n} h k =
    let (f, a, e) = h.reached in
    let (g, b, d) = k.reached in
    at_most_antisymm (subst (λ x. AtMost x n) e (k.bounds f a)) (subst (λ x. AtMost x m) d (h.bounds g b))

pub measure_is : (fs : List Form) (v : Vec Number) (m : Number) → Largest fs v m → m ≡ measure fs v
measure_is [] v m h = absurd h.reached.1
measure_is (f ∷ fs) v m h = only_largest h (largest f fs v)

-- ---- the laws
sum_at : (f u v : Vec Number) → at f (plus quadratic_ops u v) ≡ at f u ⊕ at f v
sum_at = ring_v (base K) 3 0 (λ f u v. dot E f (plus E u v) := dot E f u :+ dot E f v) refl

multiple_at : (f v : Vec Number) (k : Number) → k ⊛ at f v ≡ at f (times quadratic_ops k v)
multiple_at = ring_v (base K) 2 1 (λ f v k. k :* dot E f v := dot E f (times E k v)) refl

opposite_at : (f v : Vec Number) → at (opposite f) v ≡ at f (opposite v)
opposite_at = ring_v (base K) 2 0 (λ f v. (:- f.x) :* v.x :+ (:- f.y) :* v.y := f.x :* (:- v.x) :+ f.y :* (:- v.y)) refl

opposite_both : (f v : Vec Number) → at f v ≡ at (opposite f) (opposite v)
opposite_both = ring_v (base K) 2 0 (λ f v. f.x :* v.x :+ f.y :* v.y := (:- f.x) :* (:- v.x) :+ (:- f.y) :* (:- v.y)) refl

module _ (fs : List Form) (big : (v : Vec Number) → Largest fs v (measure fs v)) where
  triangle : (u v : Vec Number) → AtMost (measure fs (plus quadratic_ops u v)) (measure fs u ⊕ measure fs v)
  triangle u v =
      let (f, a, e) = (big (plus quadratic_ops u v)).reached in
      subst (λ m. AtMost m (measure fs u ⊕ measure fs v)) (sym (sum_at f u v) ∙ e) (at_most_add ((big u).bounds f a) ((big v).bounds f a))

  multiples : (k : Number) (v : Vec Number) → Nn quadratics k → measure fs (times quadratic_ops k v) ≡ k ⊛ measure fs v
  multiples k v h =
      let (f, a, e) = (big v).reached in
      only_largest (big (times quadratic_ops k v)) (record {
        reached = (f, a, sym (multiple_at f v k) ∙ ap (λ m. k ⊛ m) e);
        bounds = λ g b. subst (λ m. AtMost m (k ⊛ measure fs v)) (multiple_at g v k) (at_most_mul k h ((big v).bounds g b));
      })

  evenness : ((f : Form) → Among f fs → Among (opposite f) fs) → (v : Vec Number) → measure fs (opposite v) ≡ measure fs v
  evenness opp v =
      let (f, a, e) = (big v).reached in
      only_largest (big (opposite v)) (record {
        reached = (opposite f, opp f a, sym (opposite_both f v) ∙ e);
        bounds = λ g b. subst (λ m. AtMost m (measure fs v)) (opposite_at g v) ((big v).bounds (opposite g) (opp g b));
      })

big_of : (fs : List Form) → Lawful fs → (v : Vec Number) → Largest fs v (measure fs v)
big_of [] l v = absurd l.skew.2
big_of (f ∷ fs) l v = largest f fs v

pub gauge_laws : (fs : List Form) → Lawful fs → GaugeLaws fs
gauge_laws fs l = record { measures = big_of fs l; triangle = triangle fs (big_of fs l); multiples = multiples fs (big_of fs l); evenness = evenness fs (big_of fs l) l.opposites }
