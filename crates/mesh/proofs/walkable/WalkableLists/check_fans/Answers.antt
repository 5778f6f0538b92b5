use Rattle.std.proofs.Common.{Some, None, sym, subst}
use Rattle.base.specs.declared.refusals.Refusal.TheVariants.{ClosedFan, FullTurn}
use Rattle.mesh.specs.MeshLists.{meant, surface_of}
use Rattle.mesh.specs.Verdict.{Refused}
use Rattle.mesh.proofs.Settled.{walkable_settled}
use Rattle.mesh.proofs.OpenFans.{fan_scan}
use Rattle.mesh.proofs.FirstRefusal.{refuse_fan, refuse_span, accept}
use Rattle.mesh.proofs.walkable.WalkableLists.check_fans.Goals as goal

pub returns-in-Some : goal.returns-in-Some
returns-in-Some g c =
    let m = c.args.self.now.readable.limited.given in
    let l = meant g.P.PointKind.written m in
    let w = walkable_settled l c.args.self.now.walkable in
    let h = c.in-Some.corner in
    subst (λ v. Refused l (ClosedFan h v)) (sym c.vertex-vertex.ensures)
    (refuse_fan l w.readable.limits w.readable.ranges w.readable.corners w.turns w.twins h
    (fan_scan (surface_of g.P.PointKind.written m) c.walk_fans-round.new.opened.marked c.sides.result c.sides.ensures c.walk_fans-round.ensures.walked (Some h) c.in-Some.ensures))

pub returns-in-Some-round : goal.returns-in-Some-round
returns-in-Some-round g c =
    let m = c.args.self.now.readable.limited.given in
    let l = meant g.P.PointKind.written m in
    let w = walkable_settled l c.args.self.now.walkable in
    let h = c.in-Some-round.corner in
    let fans = fan_scan (surface_of g.P.PointKind.written m) c.walk_fans-round.new.opened.marked c.sides.result c.sides.ensures c.walk_fans-round.ensures.walked None c.in_default.ensures in
    subst (λ v. Refused l (FullTurn h v)) (sym c.vertex-vertex-in-Some-round.ensures)
    (refuse_span l w.readable.limits w.readable.ranges w.readable.corners w.turns w.twins fans h c.in-Some-round.ensures.short)

pub returns : goal.returns
returns g c =
    let m = c.args.self.now.readable.limited.given in
    let l = meant g.P.PointKind.written m in
    let w = walkable_settled l c.args.self.now.walkable in
    let fans = fan_scan (surface_of g.P.PointKind.written m) c.walk_fans-round.new.opened.marked c.sides.result c.sides.ensures c.walk_fans-round.ensures.walked None c.in_default.ensures in
    accept l w.readable.limits w.readable.ranges w.readable.corners w.turns w.twins fans c.in_default-round.ensures.short
