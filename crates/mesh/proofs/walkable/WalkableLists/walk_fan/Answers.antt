use Rattle.std.proofs.Common.{◌<◌, length, sym, subst, arith}
use Rattle.mesh.specs.MeshLists.{meant, surface_of}
use Rattle.mesh.specs.Stages.{Fanned}
use Rattle.mesh.proofs.FanSteps.{on_within}
use Rattle.mesh.proofs.Settled.{paired_sides}
use Rattle.mesh.proofs.MarkedCorners.{unmarked, fewer}
use Rattle.mesh.proofs.FanWalk.{Walking, begin, begin_found, step, step_found, ended, whole}
use Rattle.mesh.proofs.walkable.WalkableLists.walk_fan.Goals as goal

pub loop-d-init : goal.loop-d-init
loop-d-init g c =
    let m = c.args.self.now.readable.limited.given in
    let w = g.P.PointKind.written in
    let pairs = paired_sides (meant w m) c.args.self.now.walkable in
    record {
      walking = subst (λ k. Walking (surface_of w m) c.args.first k k c.args.first) (sym c.mark.ensures)
          (begin (surface_of w m) pairs c.args.first c.args.opened.now.marked c.requires.starts c.requires.fresh (omega (arith, c.requires.starts.has, c.args.self.now.readable.limited.limits.few_triangles, c.args.opened.now.sized)));
      found = begin_found (surface_of w m) pairs c.args.first c.args.opened.now.marked;
    }

pub mark-requires-in-Some : goal.mark-requires-in-Some
mark-requires-in-Some g c =
    let m = c.args.self.now.readable.limited.given in
    let w = g.P.PointKind.written in
    omega (arith, on_within (surface_of w m) (paired_sides (meant w m) c.args.self.now.walkable) c.loop-d.h c.in-Some.d c.loop-d.invariant.walking.has (sym c.in-Some.ensures), c.args.self.now.readable.limited.limits.few_triangles)

pub lowered-least-requires : goal.lowered-least-requires
lowered-least-requires g c =
    let m = c.args.self.now.readable.limited.given in
    let w = g.P.PointKind.written in
    (c.requires.starts.has, on_within (surface_of w m) (paired_sides (meant w m) c.args.self.now.walkable) c.loop-d.h c.in-Some.d c.loop-d.invariant.walking.has (sym c.in-Some.ensures))

pub loop-d-smaller : goal.loop-d-smaller
loop-d-smaller g c =
    let m = c.args.self.now.readable.limited.given in
    let w = g.P.PointKind.written in
    let room : c.in-Some.d.0 < length c.loop-d.opened.marked = omega (arith, on_within (surface_of w m) (paired_sides (meant w m) c.args.self.now.walkable) c.loop-d.h c.in-Some.d c.loop-d.invariant.walking.has (sym c.in-Some.ensures), c.args.self.now.readable.limited.limits.few_triangles, c.loop-d.opened.sized) in
    subst (λ k. unmarked k < unmarked c.loop-d.opened.marked) (sym c.mark-in-Some.ensures)
    (fewer c.loop-d.opened.marked c.in-Some.d.0 room (c.loop-d.invariant.walking.fresh c.in-Some.d (sym c.in-Some.ensures)))

pub loop-d-preserved : goal.loop-d-preserved
loop-d-preserved g c =
    let m = c.args.self.now.readable.limited.given in
    let w = g.P.PointKind.written in
    let pairs = paired_sides (meant w m) c.args.self.now.walkable in
    let room : c.in-Some.d.0 < length c.loop-d.opened.marked = omega (arith, on_within (surface_of w m) pairs c.loop-d.h c.in-Some.d c.loop-d.invariant.walking.has (sym c.in-Some.ensures), c.args.self.now.readable.limited.limits.few_triangles, c.loop-d.opened.sized) in
    record {
      walking = subst (λ k. Walking (surface_of w m) c.args.first c.mark.new.self.marked k c.in-Some.d) (sym c.mark-in-Some.ensures)
          (step (surface_of w m) pairs c.args.first c.mark.new.self.marked c.loop-d.opened.marked c.loop-d.h c.loop-d.invariant.walking c.in-Some.d (sym c.in-Some.ensures) room);
      found = step_found (surface_of w m) pairs c.args.first c.mark.new.self.marked c.loop-d.opened.marked c.loop-d.h c.loop-d.invariant.walking c.in-Some.d c.loop-d.least c.lowered-least.result c.loop-d.invariant.found (sym c.in-Some.ensures)
          c.lowered-least.ensures.which c.lowered-least.ensures.less c.lowered-least.ensures.here;
    }

pub returns : goal.returns
returns g c =
    let m = c.args.self.now.readable.limited.given in
    let w = g.P.PointKind.written in
    let pairs = paired_sides (meant w m) c.args.self.now.walkable in
    let all = ended (surface_of w m) pairs c.args.first c.mark.new.self.marked c.loop-d.opened.marked c.loop-d.h c.loop-d.invariant.walking c.loop-d.least c.loop-d.invariant.found (sym c.in_default.ensures) in
    whole (surface_of w m) pairs c.args.first c.args.opened.now.marked c.loop-d.opened.marked c.loop-d.least (omega (arith, c.requires.starts.has, c.args.self.now.readable.limited.limits.few_triangles, c.args.opened.now.sized))
    (subst (λ k. Fanned (surface_of w m) c.args.first k c.loop-d.opened.marked c.loop-d.least) c.mark.ensures all)
