-- The square of four triangles round its middle: refused 6 at corner 2 where all sides at the middle are portals, 7 at corner 11 where it is slit along one of them.
-- Without the middle, cut into two triangles, it is accepted.
use Rattle.std.proofs.Common.{◌≡◌, ℕ, List, [], ◌∷◌, length, pos, Some, refl, arith, lit<, lit≤}
use Rattle.base.specs.declared.ids.VertexId.{VertexId}
use Rattle.base.specs.declared.ids.HalfEdgeId.{HalfEdgeId}
use Rattle.base.specs.declared.refusals.Refusal.TheVariants.{ClosedFan, FullTurn}
use Rattle.base.specs.Ids.{triangle, vertex, half_edge, boundary, next}
use Rattle.algebra.specs.Number.{number}
use Rattle.geometry.specs.Plane.{Point, point}
use Rattle.mesh.specs.Surface.{one, more, Opens, edge, across, Covers}
use Rattle.mesh.specs.Sound.{CornerBelow, TurnsLeft, Paired, FallsShort, AtEach}
use Rattle.mesh.specs.Lists.{Lists, lists, listed, Limits, InRange}
use Rattle.mesh.specs.Verdict.{Accepted, Refused}
use Rattle.mesh.proofs.FirstRefusal.{refuse_fan, refuse_span, accept}
use Rattle.mesh_examples.proofs.Each.{Below, ◌▸◌, each}
use Rattle.mesh_examples.proofs.FanReading.{paired_none, paired_some, never_opens, here, via, falls_short, first_falls_short}

abbrev pub at : ℕ → ℕ → Point
at a b = point (number (pos a) (pos 0)) (number (pos b) (pos 0))

abbrev pub points : List Point
points = at 0 0 ∷ at 4 0 ∷ at 4 4 ∷ at 0 4 ∷ at 2 2 ∷ []

abbrev pub corners : List VertexId
corners = vertex 0 ∷ vertex 1 ∷ vertex 4 ∷ vertex 1 ∷ vertex 2 ∷ vertex 4 ∷ vertex 2 ∷ vertex 3 ∷ vertex 4 ∷ vertex 3 ∷ vertex 0 ∷ vertex 4 ∷ []

abbrev pub closed : List HalfEdgeId
closed =
    boundary ∷ half_edge 5 ∷ half_edge 10 ∷ boundary ∷ half_edge 8 ∷ half_edge 1 ∷ boundary ∷ half_edge 11 ∷ half_edge 4 ∷ boundary ∷ half_edge 2 ∷ half_edge 7 ∷ []

abbrev pub slit : List HalfEdgeId
slit =
    boundary ∷ half_edge 5 ∷ boundary ∷ boundary ∷ half_edge 8 ∷ half_edge 1 ∷ boundary ∷ half_edge 11 ∷ half_edge 4 ∷ boundary ∷ boundary ∷ half_edge 7 ∷ []

abbrev pub closed_lists : Lists
closed_lists = lists 4 points corners closed

abbrev pub slit_lists : Lists
slit_lists = lists 4 points corners slit

abbrev pub pair_lists : Lists
pair_lists =
    lists 2 (at 0 0 ∷ at 4 0 ∷ at 4 4 ∷ at 0 4 ∷ []) (vertex 0 ∷ vertex 1 ∷ vertex 2 ∷ vertex 0 ∷ vertex 2 ∷ vertex 3 ∷ [])
    (boundary ∷ boundary ∷ half_edge 3 ∷ half_edge 2 ∷ boundary ∷ boundary ∷ [])

-- the first four rules do not read what lies across
module _ (ds : List HalfEdgeId) where
  abbrev l : Lists
  l = lists 4 points corners ds

  limits : length ds ≡ 12 → Limits l
  limits e = record { some_triangles = lit≤ tt; few_triangles = lit≤ tt; some_vertices = lit≤ tt; few_vertices = lit≤ tt; all_corners = refl; all_sides = e }

  ranges : Below (λ k. InRange l (vertex k)) 5
  ranges = each (λ k. InRange l (vertex k)) 5 (tt ▸ refl ▸ refl ▸ refl ▸ refl ▸ refl)

  below : Below (λ k. CornerBelow (listed l) (half_edge k)) 12
  below = each (λ k. CornerBelow (listed l) (half_edge k)) 12 (tt ▸ lit< tt ▸ lit< tt ▸ lit< tt ▸ lit< tt ▸ lit< tt ▸ lit< tt ▸ lit< tt ▸ lit< tt ▸ lit< tt ▸ lit< tt ▸ lit< tt ▸ lit< tt)

  turns : Below (λ k. TurnsLeft (listed l) (triangle k)) 4
  turns = each (λ k. TurnsLeft (listed l) (triangle k)) 4 (tt ▸ refl ▸ refl ▸ refl ▸ refl)

closed_pairs : Below (λ k. Paired (listed closed_lists) (half_edge k)) 12
closed_pairs =
    each (λ k. Paired (listed closed_lists) (half_edge k)) 12
    (tt
    ▸ paired_none (listed closed_lists) (half_edge 0) refl
    ▸ paired_some (listed closed_lists) (half_edge 1) (half_edge 5) refl (record { within = lit< tt; back = refl; from = refl; to = refl })
    ▸ paired_some (listed closed_lists) (half_edge 2) (half_edge 10) refl (record { within = lit< tt; back = refl; from = refl; to = refl })
    ▸ paired_none (listed closed_lists) (half_edge 3) refl
    ▸ paired_some (listed closed_lists) (half_edge 4) (half_edge 8) refl (record { within = lit< tt; back = refl; from = refl; to = refl })
    ▸ paired_some (listed closed_lists) (half_edge 5) (half_edge 1) refl (record { within = lit< tt; back = refl; from = refl; to = refl })
    ▸ paired_none (listed closed_lists) (half_edge 6) refl
    ▸ paired_some (listed closed_lists) (half_edge 7) (half_edge 11) refl (record { within = lit< tt; back = refl; from = refl; to = refl })
    ▸ paired_some (listed closed_lists) (half_edge 8) (half_edge 4) refl (record { within = lit< tt; back = refl; from = refl; to = refl })
    ▸ paired_none (listed closed_lists) (half_edge 9) refl
    ▸ paired_some (listed closed_lists) (half_edge 10) (half_edge 2) refl (record { within = lit< tt; back = refl; from = refl; to = refl })
    ▸ paired_some (listed closed_lists) (half_edge 11) (half_edge 7) refl (record { within = lit< tt; back = refl; from = refl; to = refl }))

-- the corners at the middle lead back to one another
data Middle : HalfEdgeId → Type 0 where
  at_2 : Middle (half_edge 2)
  at_11 : Middle (half_edge 11)
  at_8 : Middle (half_edge 8)
  at_5 : Middle (half_edge 5)

round : (x : HalfEdgeId) → Middle x → (d : HalfEdgeId) × ((listed closed_lists).twin x ≡ Some d) × Middle (next d)
round _ at_2 = (half_edge 10, refl, at_11)
round _ at_11 = (half_edge 7, refl, at_8)
round _ at_8 = (half_edge 4, refl, at_5)
round _ at_5 = (half_edge 1, refl, at_2)

pub closed_refused : Refused closed_lists (ClosedFan (half_edge 2) (vertex 4))
closed_refused =
    refuse_fan closed_lists (limits closed refl) (λ v b. ranges closed v.0 b) (λ h b. below closed h.0 b) (λ t b. turns closed t.0 b)
    (λ h b. closed_pairs h.0 b) (half_edge 2) (
      lit< tt,
      never_opens (listed closed_lists) Middle round (half_edge 2) at_2,
      (λ h b. each (λ k. Opens (listed closed_lists) (half_edge k)) 2 (tt ▸ edge refl ▸ across refl (edge refl)) h.0 b),
    )

slit_pairs : Below (λ k. Paired (listed slit_lists) (half_edge k)) 12
slit_pairs =
    each (λ k. Paired (listed slit_lists) (half_edge k)) 12
    (tt
    ▸ paired_none (listed slit_lists) (half_edge 0) refl
    ▸ paired_some (listed slit_lists) (half_edge 1) (half_edge 5) refl (record { within = lit< tt; back = refl; from = refl; to = refl })
    ▸ paired_none (listed slit_lists) (half_edge 2) refl
    ▸ paired_none (listed slit_lists) (half_edge 3) refl
    ▸ paired_some (listed slit_lists) (half_edge 4) (half_edge 8) refl (record { within = lit< tt; back = refl; from = refl; to = refl })
    ▸ paired_some (listed slit_lists) (half_edge 5) (half_edge 1) refl (record { within = lit< tt; back = refl; from = refl; to = refl })
    ▸ paired_none (listed slit_lists) (half_edge 6) refl
    ▸ paired_some (listed slit_lists) (half_edge 7) (half_edge 11) refl (record { within = lit< tt; back = refl; from = refl; to = refl })
    ▸ paired_some (listed slit_lists) (half_edge 8) (half_edge 4) refl (record { within = lit< tt; back = refl; from = refl; to = refl })
    ▸ paired_none (listed slit_lists) (half_edge 9) refl
    ▸ paired_none (listed slit_lists) (half_edge 10) refl
    ▸ paired_some (listed slit_lists) (half_edge 11) (half_edge 7) refl (record { within = lit< tt; back = refl; from = refl; to = refl }))

slit_opens : Below (λ k. Opens (listed slit_lists) (half_edge k)) 12
slit_opens =
    each (λ k. Opens (listed slit_lists) (half_edge k)) 12
    (tt
    ▸ edge refl
    ▸ across refl (edge refl)
    ▸ edge refl
    ▸ edge refl
    ▸ across refl (edge refl)
    ▸ across refl (edge refl)
    ▸ edge refl
    ▸ across refl (edge refl)
    ▸ across refl (across refl (edge refl))
    ▸ edge refl
    ▸ edge refl
    ▸ across refl (across refl (across refl (edge refl))))

all_slit_pairs : AtEach (listed slit_lists) Paired
all_slit_pairs h b = slit_pairs h.0 b

slit_shorts : Below (λ k. FallsShort (listed slit_lists) (half_edge k)) 11
slit_shorts =
    each (λ k. FallsShort (listed slit_lists) (half_edge k)) 11
    (tt
    ▸ first_falls_short (listed slit_lists) all_slit_pairs refl
    ▸ falls_short (listed slit_lists) all_slit_pairs (via refl (here refl)) (λ c. c.0 refl)
    ▸ first_falls_short (listed slit_lists) all_slit_pairs refl
    ▸ first_falls_short (listed slit_lists) all_slit_pairs refl
    ▸ falls_short (listed slit_lists) all_slit_pairs (via refl (here refl)) (λ c. c.0 refl)
    ▸ falls_short (listed slit_lists) all_slit_pairs (via refl (here refl)) (λ c. c.0 refl)
    ▸ first_falls_short (listed slit_lists) all_slit_pairs refl
    ▸ falls_short (listed slit_lists) all_slit_pairs (via refl (here refl)) (λ c. c.0 refl)
    ▸ falls_short (listed slit_lists) all_slit_pairs (via refl (via refl (here refl))) (λ c. c.1 refl)
    ▸ first_falls_short (listed slit_lists) all_slit_pairs refl
    ▸ first_falls_short (listed slit_lists) all_slit_pairs refl)

-- the last triangle ends on the ray that the first one begins with
slit_covers : Covers (listed slit_lists) (half_edge 2) (half_edge 11)
slit_covers = ((λ e. let z : ◌≡◌ {A = ℕ} 0 1 = cc in omega arith), (λ e. let z : ◌≡◌ {A = ℕ} 0 1 = cc in omega arith))

pub slit_refused : Refused slit_lists (FullTurn (half_edge 11) (vertex 4))
slit_refused =
    refuse_span slit_lists (limits slit refl) (λ v b. ranges slit v.0 b) (λ h b. below slit h.0 b) (λ t b. turns slit t.0 b)
    all_slit_pairs (λ h b. slit_opens h.0 b) (half_edge 11)
    (lit< tt, (λ short. short (half_edge 2) (lit< tt) refl (more (more (one refl) refl) refl) slit_covers), (λ h b. slit_shorts h.0 b))

pair_limits : Limits pair_lists
pair_limits = record { some_triangles = lit≤ tt; few_triangles = lit≤ tt; some_vertices = lit≤ tt; few_vertices = lit≤ tt; all_corners = refl; all_sides = refl }

pair_ranges : Below (λ k. InRange pair_lists (vertex k)) 4
pair_ranges = each (λ k. InRange pair_lists (vertex k)) 4 (tt ▸ refl ▸ refl ▸ refl ▸ refl)

pair_below : Below (λ k. CornerBelow (listed pair_lists) (half_edge k)) 6
pair_below = each (λ k. CornerBelow (listed pair_lists) (half_edge k)) 6 (tt ▸ lit< tt ▸ lit< tt ▸ lit< tt ▸ lit< tt ▸ lit< tt ▸ lit< tt)

pair_turns : Below (λ k. TurnsLeft (listed pair_lists) (triangle k)) 2
pair_turns = each (λ k. TurnsLeft (listed pair_lists) (triangle k)) 2 (tt ▸ refl ▸ refl)

pair_pairs : Below (λ k. Paired (listed pair_lists) (half_edge k)) 6
pair_pairs =
    each (λ k. Paired (listed pair_lists) (half_edge k)) 6
    (tt
    ▸ paired_none (listed pair_lists) (half_edge 0) refl
    ▸ paired_none (listed pair_lists) (half_edge 1) refl
    ▸ paired_some (listed pair_lists) (half_edge 2) (half_edge 3) refl (record { within = lit< tt; back = refl; from = refl; to = refl })
    ▸ paired_some (listed pair_lists) (half_edge 3) (half_edge 2) refl (record { within = lit< tt; back = refl; from = refl; to = refl })
    ▸ paired_none (listed pair_lists) (half_edge 4) refl
    ▸ paired_none (listed pair_lists) (half_edge 5) refl)

pair_opens : Below (λ k. Opens (listed pair_lists) (half_edge k)) 6
pair_opens =
    each (λ k. Opens (listed pair_lists) (half_edge k)) 6
    (tt
    ▸ edge refl
    ▸ edge refl
    ▸ across refl (edge refl)
    ▸ across refl (edge refl)
    ▸ edge refl
    ▸ edge refl)

all_pair_pairs : AtEach (listed pair_lists) Paired
all_pair_pairs h b = pair_pairs h.0 b

pair_shorts : Below (λ k. FallsShort (listed pair_lists) (half_edge k)) 6
pair_shorts =
    each (λ k. FallsShort (listed pair_lists) (half_edge k)) 6
    (tt
    ▸ first_falls_short (listed pair_lists) all_pair_pairs refl
    ▸ first_falls_short (listed pair_lists) all_pair_pairs refl
    ▸ falls_short (listed pair_lists) all_pair_pairs (via refl (here refl)) (λ c. c.0 refl)
    ▸ falls_short (listed pair_lists) all_pair_pairs (via refl (here refl)) (λ c. c.0 refl)
    ▸ first_falls_short (listed pair_lists) all_pair_pairs refl
    ▸ first_falls_short (listed pair_lists) all_pair_pairs refl)

pub pair_accepted : Accepted pair_lists
pair_accepted =
    accept pair_lists pair_limits (λ v b. pair_ranges v.0 b) (λ h b. pair_below h.0 b) (λ t b. pair_turns t.0 b) all_pair_pairs
    (λ h b. pair_opens h.0 b) (λ h b. pair_shorts h.0 b)
