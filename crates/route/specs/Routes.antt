-- walk            the crossings that a route holds
-- route_refusal   a walk of more than 2,048 crossings finds no place
use Rattle.std.specs.Prelude.{cond, List, length, take, Some, None, Option, nat_lt}
use Rattle.base.specs.declared.refusals.Refusal.{Refusal}
use Rattle.base.specs.declared.refusals.Refusal.TheVariants.{RouteFull}
use Rattle.words.specs.declared.sorts.Crossing.{Crossing}
use Rattle.route.specs.declared.Route.{Route}

abbrev pub walk : Route → List Crossing
walk r = take r.len r.crossings

abbrev pub route_refusal : List Crossing → Option Refusal
route_refusal w = cond (nat_lt 2048 (length w)) (Some RouteFull) None
