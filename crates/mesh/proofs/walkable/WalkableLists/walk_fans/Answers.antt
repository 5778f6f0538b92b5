use Rattle.std.proofs.Common.{◌≡◌, ◌*◌, subst, arith}
use Rattle.mesh.specs.MeshLists.{meant, surface_of}
use Rattle.mesh.specs.Stages.{WalkedTo}
use Rattle.mesh.proofs.Settled.{paired_sides}
use Rattle.mesh.proofs.AllFans.{all_walked, first_round}
use Rattle.mesh.proofs.walkable.WalkableLists.walk_fans.Goals as goal

pub returns : goal.returns
returns g c =
    let m = c.args.self.now.readable.limited.given in
    let f = surface_of g.P.PointKind.written m in
    let pairs = paired_sides (meant g.P.PointKind.written m) c.args.self.now.walkable in
    let end : c.loop-k.k ≡ 3 * m.triangles = omega (arith, c.sides-k-end.ensures) in
    let w = subst (λ k. WalkedTo f k c.loop-k.opened.marked c.loop-k.least) end c.loop-k.invariant in
    record { walked = all_walked f pairs c.loop-k.opened.marked c.loop-k.least w; short = first_round f pairs c.loop-k.opened.marked c.loop-k.least w }
