use Rattle.mesh.specs.MeshLists.{meant}
use Rattle.mesh.proofs.FirstRefusal.{refuse_turn, refuse_twin}
use Rattle.mesh.proofs.Settled.{readable_settled}
use Rattle.mesh.proofs.readable.ReadableLists.walkable.Goals as goal

pub returns-in-Some-clause-refused : goal.returns-in-Some-clause-refused
returns-in-Some-clause-refused g c =
    let l = meant g.P.PointKind.written c.args.self.limited.given in
    let r = readable_settled l c.args.self.readable in
    refuse_turn l r.limits r.ranges r.corners c.in-Some.triangle c.in-Some.ensures

pub returns-in-Some-first_unpaired-clause-refused : goal.returns-in-Some-first_unpaired-clause-refused
returns-in-Some-first_unpaired-clause-refused g c =
    let l = meant g.P.PointKind.written c.args.self.limited.given in
    let r = readable_settled l c.args.self.readable in
    refuse_twin l r.limits r.ranges r.corners c.in_default.ensures c.in-Some-first_unpaired.side c.in-Some-first_unpaired.ensures

pub invariant_of-result : goal.invariant_of-result
invariant_of-result g c =
    let l = meant g.P.PointKind.written c.args.self.limited.given in
    let r = readable_settled l c.args.self.readable in
    record { walkable = ∣ record { readable = r; turns = c.in_default.ensures; twins = c.in_default-first_unpaired.ensures } ∣₁ }
