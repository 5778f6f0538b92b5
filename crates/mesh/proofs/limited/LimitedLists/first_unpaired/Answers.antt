use Rattle.std.proofs.Common.{arith, below_more}
use Rattle.base.specs.Ids.{half_edge}
use Rattle.mesh.specs.Sound.{Paired}
use Rattle.mesh.specs.MeshLists.{surface_of}
use Rattle.mesh.proofs.limited.LimitedLists.first_unpaired.Goals as goal

pub loop-k-preserved : goal.loop-k-preserved
loop-k-preserved g c =
    let f = surface_of g.P.PointKind.written c.args.self.now.given in
    λ h b. below_more (λ k. Paired f (half_edge k)) _ (λ k low. c.loop-k.invariant (half_edge k) low) (c.is_paired.ensures.0 c.if-not-is_paired.false) h.0 b

pub returns : goal.returns
returns g c = λ h b. c.loop-k.invariant h (omega (arith, b, c.sides-k-end.ensures))
