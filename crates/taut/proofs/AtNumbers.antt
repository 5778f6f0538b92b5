-- The laws at the numbers p + q√2, which are an ordered ring.
use Rattle.std.proofs.Common.{refl}
use Rattle.algebra.specs.Number.{quadratics, sign}
use Rattle.algebra.proofs.Quadratics.{quadratic_ring, signs_say}
use Rattle.taut.specs.Fan.{opposite}
use Rattle.taut.specs.Laws.{Shortness, Shortcut, Existence, Uniqueness, FanOrder, FanParts, PortalOrder}
use Rattle.taut.specs.Backwards.{Backwards}
use Rattle.taut.specs.EqualBends.{EqualBends}
use Rattle.taut.specs.SheetStrings.{SheetStrings}
use Rattle.taut.proofs.Shortness.{shortness}
use Rattle.taut.proofs.Shortcut.{shortcut}
use Rattle.taut.proofs.Existence.{existence}
use Rattle.taut.proofs.Uniqueness.{uniqueness}
use Rattle.taut.proofs.FanOrder.{not_again}
use Rattle.taut.proofs.FanParts.{fan_part, fan_reverse, fan_first, fan_last}
use Rattle.taut.proofs.PortalOrder.{portal_order}
use Rattle.taut.proofs.Backwards.{sleeve_back, string_back}
use Rattle.taut.proofs.IndexForm.{to_taut}
use Rattle.taut.proofs.EqualBends.{no_two, no_two_at_start, no_stop_before, no_stop_at_start}

pub shortness_here : Shortness
shortness_here fs measure G s e ps bs h st D js marks = record { gap = shortness quadratic_ring fs measure G s e ps bs h st D js marks }

pub shortcut_here : Shortcut
shortcut_here fs measure G x ys z y zs = record { gap = shortcut quadratic_ring fs measure G x ys z y zs }

pub existence_here : Existence
existence_here s e ps h b = existence quadratic_ring sign signs_say s e ps h b

pub uniqueness_here : Uniqueness
uniqueness_here s e ps bs bs' h one two = uniqueness quadratic_ring s e ps bs bs' h one two

pub fan_order_here : FanOrder
fan_order_here t u h rs ne f m = not_again quadratic_ring t u (opposite quadratics u) h rs ne f m

pub fan_parts_here : FanParts
fan_parts_here = record { part = fan_part quadratic_ring; turned_about = fan_reverse quadratic_ring; first_inward = fan_first quadratic_ring; last_inward = fan_last quadratic_ring }

pub portal_order_here : PortalOrder
portal_order_here t p q k D j le = portal_order quadratic_ring p q D j le t k

pub sheet_strings_here : SheetStrings
sheet_strings_here = record { hole_on_the_left = refl; hole_on_the_right = refl; once_round = refl; touching = refl }

pub backwards_here : Backwards
backwards_here = record { sleeve = sleeve_back quadratic_ring; string = string_back quadratic_ring }

pub equal_bends_here : EqualBends
equal_bends_here = record {
  fork = λ s e bs p ps q₁ q₂ ps₁ ps₂ f fan one two. no_two quadratic_ring e s bs p ps q₁ q₂ ps₁ ps₂ f fan one.0 (to_taut quadratics one.1) two.0 (to_taut quadratics two.1);
  fork_at_start = λ s e bs q₁ q₂ ps₁ ps₂ shared tri fan one two. no_two_at_start quadratic_ring e s bs q₁ q₂ ps₁ ps₂ shared tri fan one.0 (to_taut quadratics one.1) two.0 (to_taut quadratics two.1);
  stop = λ s e bs p ps q qs bh one two. no_stop_before quadratic_ring e s bs p ps q qs bh one.0 (to_taut quadratics one.1) two.0 (to_taut quadratics two.1);
  stop_at_start = λ s e q qs bh one. no_stop_at_start quadratic_ring e s q qs bh one.0 (to_taut quadratics one.1);
}
