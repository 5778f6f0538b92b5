-- That a surface is sound has one proof at most in each of its parts, so where it is only known that there is some proof there is one to be had.
use Rattle.std.proofs.Common.{◌≡◌, ℕ, zero, suc, Some, None, Option, refl, ap, ap₂}
use mathlib.Core.Path.{path_j}
use mathlib.Core.Logic.{∥∥₁_elim}
use mathlib.Core.HLevel.{⊥_prop}
use native.Mathlib.Nat.{ℕ_set}
use native.Mathlib.Bridge.{le_prop}
use ghost.Sets.{retract_set}
use Rattle.base.specs.declared.ids.VertexId.{VertexId}
use Rattle.base.specs.declared.ids.HalfEdgeId.{HalfEdgeId}
use Rattle.base.specs.Ids.{vertex, half_edge, next}
use Rattle.geometry.specs.declared.Turn.{Turn}
use Rattle.geometry.specs.declared.Turn.TheVariants.{Left, Straight, Right}
use Rattle.mesh.specs.Surface.{Surface, Opens, edge, across}
use Rattle.mesh.specs.Sound.{Sound}
use Rattle.mesh.proofs.FanSteps.{some_same, some_none}

vertices_set : IsSet VertexId
vertices_set = retract_set (λ v. v.0) vertex (λ v. refl) ℕ_set

abbrev option_number : Option HalfEdgeId → ℕ
option_number None = zero
option_number (Some h) = suc h.0

abbrev numbered_option : ℕ → Option HalfEdgeId
numbered_option zero = None
numbered_option (suc n) = Some (half_edge n)

option_back : (o : Option HalfEdgeId) → numbered_option (option_number o) ≡ o
option_back None = refl
option_back (Some h) = refl

options_set : IsSet (Option HalfEdgeId)
options_set = retract_set option_number numbered_option option_back ℕ_set

abbrev turn_number : Turn → ℕ
turn_number Left = 0
turn_number Straight = 1
turn_number Right = 2

abbrev numbered_turn : ℕ → Turn
numbered_turn zero = Left
numbered_turn (suc zero) = Straight
numbered_turn (suc (suc n)) = Right

turn_back : (t : Turn) → numbered_turn (turn_number t) ≡ t
turn_back Left = refl
turn_back Straight = refl
turn_back Right = refl

turns_set : IsSet Turn
turns_set = retract_set turn_number numbered_turn turn_back ℕ_set

opens_prop : {f : Surface} {h : HalfEdgeId} (p q : Opens f h) → p ≡ q
opens_prop {f} {h} (edge t) (edge u) = ap edge (options_set (f.twin h) None t u)
opens_prop (edge t) (across u r) = absurd (some_none u t)
opens_prop (across t o) (edge u) = absurd (some_none t u)
opens_prop {f} {h} (across {d = d} t o) (across {d = x} u r) =
    path_j (λ y e. (u : f.twin h ≡ Some y) (r : Opens f (next y)) → ◌≡◌ {A = Opens f h} (across t o) (across u r))
    (λ u r. ap₂ across (options_set (f.twin h) (Some d) t u) (opens_prop o r))
    (some_same t u)
    u
    r

pub settled : (f : Surface) → ∥ Sound f ∥₁ → Sound f
settled f s = record {
  corners = λ h l. ∥∥₁_elim s le_prop (λ w. w.corners h l);
  turns = λ t l. ∥∥₁_elim s (turns_set _ _) (λ w. w.turns t l);
  twins = λ h l d e. record {
    within = ∥∥₁_elim s le_prop (λ w. (w.twins h l d e).within);
    back = ∥∥₁_elim s (options_set _ _) (λ w. (w.twins h l d e).back);
    from = ∥∥₁_elim s (vertices_set _ _) (λ w. (w.twins h l d e).from);
    to = ∥∥₁_elim s (vertices_set _ _) (λ w. (w.twins h l d e).to);
  };
  fans = λ h l. ∥∥₁_elim s opens_prop (λ w. w.fans h l);
  spans = λ h l x m t k c. ∥∥₁_elim s ⊥_prop (λ w. w.spans h l x m t k c);
}
