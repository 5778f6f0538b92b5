use Rattle.std.proofs.Common.{Some, None, sym, subst}
use lib.ListN.{length-map}
use Rattle.mesh.specs.Lists.{InRange}
use Rattle.mesh.specs.MeshLists.{meant}
use Rattle.mesh.specs.Verdict.{FirstBad}
use Rattle.mesh.proofs.FirstRefusal.{refuse_range, refuse_corner}
use Rattle.mesh.proofs.limited.LimitedLists.readable.Goals as goal

pub returns-in-Some-clause-refused : goal.returns-in-Some-clause-refused
returns-in-Some-clause-refused g c =
    let l = meant g.P.PointKind.written c.args.self.given in
    refuse_range l c.args.self.limits c.in-Some.vertex
    (subst (λ n. FirstBad (λ v. v.0) (InRange l) n (Some c.in-Some.vertex)) (sym (length-map c.args.self.given.rows.now g.P.PointKind.written)) c.in-Some.ensures)

pub returns-in-Some-first_far_corner-clause-refused : goal.returns-in-Some-first_far_corner-clause-refused
returns-in-Some-first_far_corner-clause-refused g c =
    let l = meant g.P.PointKind.written c.args.self.given in
    refuse_corner l c.args.self.limits
    (subst (λ n. FirstBad (λ v. v.0) (InRange l) n None) (sym (length-map c.args.self.given.rows.now g.P.PointKind.written)) c.in_default.ensures)
    c.in-Some-first_far_corner.corner c.in-Some-first_far_corner.ensures
