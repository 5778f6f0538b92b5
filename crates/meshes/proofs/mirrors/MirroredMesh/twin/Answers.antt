use Rattle.surfaces.proofs.LayerTwins.{twin_renamed}
use Rattle.meshes.proofs.mirrors.MirroredMesh.twin.Goals as goal

pub returns : goal.returns
returns g c =
    let m = c.args.self.now.below in
    twin_renamed (g.M.Mesh.surface m) (g.M.Mesh.sound m) c.args.h c.mirrored_side.result c.mirrored_side.ensures.turned c.mirrored_side.ensures.nowhere
    c.in_ok-d.d c.mirrored_side-2.result c.in_ok-d.ensures c.mirrored_side-2.ensures.turned
