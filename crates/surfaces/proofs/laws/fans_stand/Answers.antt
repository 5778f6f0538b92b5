use Rattle.surfaces.proofs.FanRays.{rays_apart}
use Rattle.surfaces.proofs.laws.fans_stand.Goals as goal

pub returns : goal.returns
returns c = rays_apart
