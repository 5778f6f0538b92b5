-- The largest value over a table of forms, read from the front one form at a time, and `max` as the larger of two numbers.
use Rattle.std.proofs.Common.{◌≡◌, ℕ, ◌+◌, ◌<◌, cond, List, map, length, get_or, drop, sym, refl, ap, ◌∙◌}
use Rattle.std.proofs.lemmas.List.{at_drop_more}
use Rattle.std.specs.declared.cmp.Ordering.{Ordering}
use Rattle.std.specs.Ordering.{ord_max, on, is_lt, ordering_reverse}
use Rattle.algebra.specs.Number.{Number, sign, ordering, compare, ◌⊖◌}
use Rattle.algebra.specs.declared.Sign.{Sign}
use Rattle.algebra.specs.declared.Sign.TheVariants.{Minus, Zero, Plus}
use Rattle.algebra.proofs.Compared.{compare_total}
use Rattle.coordinates.specs.Values.{value}
use Rattle.coordinates.specs.declared.Surd.{Surd}
use Rattle.algebra.specs.Plane.{Vec}
use Rattle.gauge.specs.declared.LinearForm.{LinearForm}
use Rattle.gauge.specs.Measure.{at, choose, larger, top}
use Rattle.gauge.specs.Forms.{form_value}

pub one_more : (b b' m whole : Number) (forms : List LinearForm) (i : ℕ) (d : LinearForm) (v : Vec Number) → i < length forms
    → top b (map form_value (drop i forms)) v ≡ whole → m ≡ at (form_value (get_or forms i d)) v → b' ≡ larger m b
    → top b' (map form_value (drop (i + 1) forms)) v ≡ whole
one_more b b' m whole forms i d v h inv e f =
    ap (λ n. top n (map form_value (drop (i + 1) forms)) v) (f ∙ ap (λ k. larger k b) e)
    ∙ sym (at_drop_more (λ fs. top b (map form_value fs) v) forms i d h) ∙ inv

-- `max` by the sign of the difference
choose_max : (s : Sign) (r : Ordering) (a b : Surd 1000000000000000000) → r ≡ ordering_reverse (ordering s) → value (cond (is_lt r) a b) ≡ choose s (value a) (value b)
choose_max Minus r a b e = rw e refl
choose_max Zero r a b e = rw e refl
choose_max Plus r a b e = rw e refl

pub max_is : (r a b : Surd 1000000000000000000) → r ≡ ord_max (on value compare) a b → value r ≡ larger (value a) (value b)
max_is r a b e = ap value e ∙ choose_max (sign (value a ⊖ value b)) (compare (value b) (value a)) a b (compare_total.antisymm (value b) (value a))
