use Rattle.gauge.proofs.Largest.{gauge_laws}
use Rattle.gauge.proofs.laws.gauges_stand.Goals as goal

pub returns : goal.returns
returns c = gauge_laws
