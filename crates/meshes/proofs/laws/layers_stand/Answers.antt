use Rattle.surfaces.proofs.MirroredLawful.{mirrored_lawful, mirrored_twice}
use Rattle.surfaces.proofs.BarredLawful.{barred_lawful}
use Rattle.meshes.proofs.laws.layers_stand.Goals as goal

pub returns : goal.returns
returns g c = record {
  mirrored = λ m. mirrored_lawful (g.M.Mesh.surface m) (g.M.Mesh.sound m);
  barred = λ m bars. barred_lawful bars (g.M.Mesh.surface m) (g.M.Mesh.sound m);
  twice = λ m. mirrored_twice (g.M.Mesh.surface m);
}
