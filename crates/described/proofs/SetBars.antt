-- Setting    the bars before a place stand, and what is refused of all is what is refused of those from that place on
use Rattle.std.proofs.Common.{◌≡◌, ℕ, List, [], take, drop}
use Rattle.base.specs.declared.ids.HalfEdgeId.{HalfEdgeId}
use Rattle.mesh.specs.Surface.{Surface}
use Rattle.described.specs.Bars.{first_refused}

pub record Setting (f : Surface) (bars : List HalfEdgeId) (i : ℕ) (g : Surface) (standing : List HalfEdgeId) : Type 0 where
  pub below : g ≡ f
  pub so_far : standing ≡ take i bars
  pub same : first_refused f [] bars ≡ first_refused f (take i bars) (drop i bars)
