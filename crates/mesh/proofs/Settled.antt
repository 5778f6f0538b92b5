-- What readable and walkable lists are known to be has one proof at most in each of its parts, so where it is only known that there is some proof there is one to be had.
use Rattle.std.proofs.Common.{◌≡◌, zero, suc, ℕ, Some, None, Option, refl, arith}
use mathlib.Core.Logic.{∥∥₁_elim, ∥∥₁_prop}
use mathlib.Core.HLevel.{⊥_prop}
use native.Mathlib.Nat.{ℕ_set}
use native.Mathlib.Bridge.{le_prop}
use ghost.Sets.{retract_set}
use Rattle.base.specs.declared.ids.VertexId.{VertexId}
use Rattle.base.specs.declared.ids.HalfEdgeId.{HalfEdgeId}
use Rattle.base.specs.Ids.{vertex, half_edge}
use Rattle.geometry.specs.Ranges.{point_refusal}
use Rattle.geometry.specs.declared.Turn.{Turn}
use Rattle.geometry.specs.declared.Turn.TheVariants.{Left, Straight, Right}
use Rattle.mesh.specs.Surface.{triangle_turn}
use Rattle.mesh.specs.Sound.{Paired, AtEach}
use Rattle.mesh.specs.Lists.{Lists, listed}
use Rattle.mesh.specs.Stages.{Readable, Walkable}
use Rattle.mesh.proofs.FanSteps.{some_none}

pub vertices_set : IsSet VertexId
vertices_set = retract_set (λ v. v.0) vertex (λ v. refl) ℕ_set

abbrev option_number : Option HalfEdgeId → ℕ
option_number None = zero
option_number (Some h) = suc h.0

abbrev numbered_option : ℕ → Option HalfEdgeId
numbered_option zero = None
numbered_option (suc n) = Some (half_edge n)

option_back : (o : Option HalfEdgeId) → numbered_option (option_number o) ≡ o
option_back None = refl
option_back (Some h) = refl

pub options_set : IsSet (Option HalfEdgeId)
options_set = retract_set option_number numbered_option option_back ℕ_set

-- nothing is there, if that is not false
none_settled : {X : Type 0} (o : Option X) → ((o ≡ None → ⊥) → ⊥) → o ≡ None
none_settled None n = refl
none_settled (Some x) n = absurd (n (λ z. some_none refl z))

left_settled : (t : Turn) → ((t ≡ Left → ⊥) → ⊥) → t ≡ Left
left_settled Left n = refl
left_settled Straight n = absurd (n (λ e. let z : ◌≡◌ {A = ℕ} 0 1 = cc in omega arith))
left_settled Right n = absurd (n (λ e. let z : ◌≡◌ {A = ℕ} 0 1 = cc in omega arith))

pub readable_settled : (l : Lists) → ∥ Readable l ∥₁ → Readable l
readable_settled l known = record {
  limits = record {
    some_triangles = ∥∥₁_elim known le_prop (λ r. r.limits.some_triangles);
    few_triangles = ∥∥₁_elim known le_prop (λ r. r.limits.few_triangles);
    some_vertices = ∥∥₁_elim known le_prop (λ r. r.limits.some_vertices);
    few_vertices = ∥∥₁_elim known le_prop (λ r. r.limits.few_vertices);
    all_corners = ∥∥₁_elim known (ℕ_set _ _) (λ r. r.limits.all_corners);
    all_sides = ∥∥₁_elim known (ℕ_set _ _) (λ r. r.limits.all_sides);
  };
  ranges = λ v b. none_settled (point_refusal ((listed l).point v)) (λ out. ∥∥₁_elim known ⊥_prop (λ r. out (r.ranges v b)));
  corners = λ h b. ∥∥₁_elim known le_prop (λ r. r.corners h b);
}

pub walkable_settled : (l : Lists) → ∥ Walkable l ∥₁ → Walkable l
walkable_settled l known = record {
  readable = readable_settled l (∥∥₁_elim known ∥∥₁_prop (λ w. ∣ w.readable ∣₁));
  turns = λ t b. left_settled (triangle_turn (listed l) t) (λ out. ∥∥₁_elim known ⊥_prop (λ w. out (w.turns t b)));
  twins = λ h b d e. record {
    within = ∥∥₁_elim known le_prop (λ w. (w.twins h b d e).within);
    back = ∥∥₁_elim known (options_set _ _) (λ w. (w.twins h b d e).back);
    from = ∥∥₁_elim known (vertices_set _ _) (λ w. (w.twins h b d e).from);
    to = ∥∥₁_elim known (vertices_set _ _) (λ w. (w.twins h b d e).to);
  };
}

pub paired_sides : (l : Lists) → ∥ Walkable l ∥₁ → AtEach (listed l) Paired
paired_sides l known = (walkable_settled l known).twins
