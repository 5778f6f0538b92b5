-- No path of any word of crossings that is homotopic to a reduced walk is shorter than the walk's taut string (`shortest_of_all`).
-- The walk is that word's reduction, so its portals are some of the word's, and a path that leaves out portals is no longer.
use Rattle.std.proofs.Common.{◌≡◌, List, [], ◌∷◌, ◌++◌, sym, ap, ◌∙◌, subst}
use Rattle.std.proofs.lemmas.List.{append_assoc, append-nil}
use Rattle.algebra.specs.Number.{quadratics, ◌⊛◌}
use Rattle.algebra.proofs.OrderedRing.{le_trans}
use Rattle.algebra.proofs.Quadratics.{quadratic_ring}
use Rattle.words.specs.declared.sorts.Crossing.{Crossing}
use Rattle.words.specs.Sorts.{recrossed, same_crossing}
use Rattle.words.specs.Words.{added, adding, reduction}
use Rattle.words.proofs.LastLetters.{cancels, appends, way}
use Rattle.words.proofs.EqualReductions.{reduction_only}
use Rattle.words.proofs.LawfulSorts.{crossing_lawful}
use Rattle.taut.specs.Lengths.{whole, times_over}
use Rattle.taut.specs.Laws.{string_length, path_length}
use Rattle.taut.proofs.AtNumbers.{shortness_here}
use Rattle.mesh.specs.Surface.{Surface}
use Rattle.walks.specs.Walks.{portals}
use Rattle.walks.specs.Laws.{ShortestOfAll}
use Rattle.walks.proofs.ShorterPaths.{PartOf, none, keep, omit, fewer_places}
use Rattle.walks.proofs.Sleeves.{sleeve_of}

all_of : {X : Type 0} (w : List X) → PartOf w w
all_of [] = none
all_of (x ∷ w) = keep (all_of w)

part_behind : {X : Type 0} (u : List X) {v w : List X} → PartOf v w → PartOf (u ++ v) (u ++ w)
part_behind [] l = l
part_behind (x ∷ u) l = keep (part_behind u l)

part_twice : {X : Type 0} {u v w : List X} → PartOf u v → PartOf v w → PartOf u w
part_twice l (omit m) = omit (part_twice l m)
part_twice (keep l) (keep m) = keep (part_twice l m)
part_twice (omit l) (keep m) = omit (part_twice l m)
part_twice none none = none

part_step : (v w : List Crossing) (c : Crossing) → PartOf (added recrossed same_crossing v c ++ w) (v ++ c ∷ w)
part_step v w c = elim (way recrossed same_crossing crossing_lawful v c) [
  | cancels u e a ↦
      let spur : u ++ recrossed c ∷ c ∷ w ≡ v ++ c ∷ w = sym (append_assoc u (recrossed c ∷ []) (c ∷ w)) ∙ ap (λ x. x ++ c ∷ w) (sym e) in
      subst (λ x. PartOf (x ++ w) (v ++ c ∷ w)) (sym a) (subst (PartOf (u ++ w)) spur (part_behind u (omit (omit (all_of w)))))
  | appends no_end a ↦ subst (λ x. PartOf x (v ++ c ∷ w)) (sym (ap (λ x. x ++ w) a ∙ append_assoc v (c ∷ []) w)) (all_of (v ++ c ∷ w))
]

part_adding : (v w : List Crossing) → PartOf (adding recrossed same_crossing v w) (v ++ w)
part_adding v [] = subst (PartOf v) (sym (append-nil v)) (all_of v)
part_adding v (c ∷ w) = part_twice (part_adding (added recrossed same_crossing v c) w) (part_step v w c)

part_portals : (f : Surface) {v w : List Crossing} → PartOf v w → PartOf (portals f v) (portals f w)
part_portals f none = none
part_portals f (keep l) = keep (part_portals f l)
part_portals f (omit l) = omit (part_portals f l)

pub shortest_of_all : ShortestOfAll
shortest_of_all f sound t u s e w j v h fs measure G bs taut D js marks =
    let is_reduction : w ≡ reduction recrossed same_crossing v = reduction_only recrossed same_crossing crossing_lawful v w h j.reduced in
    let some : PartOf (portals f w) (portals f v) = part_portals f (subst (λ x. PartOf x v) (sym is_reduction) (part_adding [] v)) in
    let short = fewer_places quadratic_ring fs measure G D (times_over quadratics D e) some js marks in
    let least = shortness_here fs measure G s e (portals f w) bs (sleeve_of f sound t u s e w j).0 taut D short.0 short.1 in
    record { gap = le_trans quadratic_ring {a = whole quadratics D ⊛ string_length measure s bs e} {b = path_length measure D s (portals f w) short.0 e} {c = path_length measure D s (portals f v) js e} least.gap (short.2 (times_over quadratics D s)) }
