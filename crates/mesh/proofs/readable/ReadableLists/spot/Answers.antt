use Rattle.std.proofs.Common.{sym, ◌∙◌}
use Rattle.mesh.proofs.FanSteps.{some_none}
use Rattle.mesh.proofs.ReadRows.{row_fits, row_is}
use Rattle.mesh.proofs.readable.ReadableLists.spot.Goals as goal

pub unreachable-requires : goal.unreachable-requires
unreachable-requires g c =
    let m = c.args.self.now.limited.given in
    some_none c.in-Err.ensures (row_fits g.P.PointKind.written m c.args.self.now.readable c.args.h c.requires c.vertex-v.result c.vertex-v.ensures c.index-self-v.result)

pub returns : goal.returns
returns g c =
    let m = c.args.self.now.limited.given in
    c.in-Ok.ensures.1
    ∙ sym (row_is g.P.PointKind.written m c.args.self.now.readable c.args.h c.requires c.vertex-v.result c.vertex-v.ensures c.index-self-v.result)
