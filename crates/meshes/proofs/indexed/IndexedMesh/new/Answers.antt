use Rattle.std.proofs.Common.{rules}
use Rattle.surfaces.proofs.ListedLawful.{refused_holds}
use Rattle.meshes.proofs.indexed.IndexedMesh.new.Goals as goal

pub returns-then-is_err : goal.returns-then-is_err
returns-then-is_err g c = refused_holds _ c.validate.result c.validate.ensures (search rules)
