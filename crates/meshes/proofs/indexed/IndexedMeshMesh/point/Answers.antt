use Rattle.std.proofs.Common.{rules}
use Rattle.surfaces.proofs.ListedLawful.{never_refused}
use Rattle.meshes.proofs.indexed.IndexedMeshMesh.point.Goals as goal

pub unreachable-requires : goal.unreachable-requires
unreachable-requires g c =
    let m = c.args.self.now in
    never_refused g.P.PointKind.written m.lists.rows.now m.lists.triangles m.lists.corners.now m.lists.across.now m.vetted c.args.v c.in-Some.row.now c.in-Err.field-0 (search rules) c.in-Some.ensures.lookup.1 c.in-Err.ensures
