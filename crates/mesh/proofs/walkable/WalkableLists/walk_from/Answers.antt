use Rattle.std.proofs.Common.{sym, ◌∙◌, rules}
use Rattle.mesh.specs.MeshLists.{meant, surface_of}
use Rattle.mesh.proofs.FanSteps.{some_not_none}
use Rattle.mesh.proofs.Settled.{paired_sides}
use Rattle.mesh.proofs.AllFans.{fresh, passed, walked}
use Rattle.mesh.proofs.walkable.WalkableLists.walk_from.Goals as goal

pub returns-then-is_some : goal.returns-then-is_some
returns-then-is_some g c =
    let m = c.args.self.now.readable.limited.given in
    let w = g.P.PointKind.written in
    passed (surface_of w m) (paired_sides (meant w m) c.args.self.now.walkable) c.args.h c.args.opened.now.marked c.args.least c.requires.walked (λ z. some_not_none (sym c.is_some.ensures ∙ c.if-is_some.true) (c.twin.ensures ∙ z))

pub walk_fan-requires-clause-fresh : goal.walk_fan-requires-clause-fresh
walk_fan-requires-clause-fresh g c =
    let m = c.args.self.now.readable.limited.given in
    let w = g.P.PointKind.written in
    fresh (surface_of w m) (paired_sides (meant w m) c.args.self.now.walkable) c.args.h c.args.opened.now.marked c.args.least c.requires.walked (record { has = c.requires.there; rim = search rules })

pub returns : goal.returns
returns g c =
    let m = c.args.self.now.readable.limited.given in
    let w = g.P.PointKind.written in
    walked (surface_of w m) (paired_sides (meant w m) c.args.self.now.walkable) c.args.h c.args.opened.now.marked c.args.least c.requires.walked (record { has = c.requires.there; rim = search rules })
    c.walk_fan.new.opened.marked c.walk_fan.result c.lesser.result c.walk_fan.ensures c.lesser.ensures.which c.lesser.ensures.first c.lesser.ensures.second
