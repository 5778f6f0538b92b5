use Rattle.funnel.proofs.GainedEnds.{flipped}
use Rattle.funnel.proofs.Working.flip.Goals as goal

pub returns-clause-flips : goal.returns-clause-flips
returns-clause-flips g c e t n f h = flipped g.P.PointKind.at e t _ _ _ _ n f h _ _ c.swap.ensures.x_after c.swap.ensures.y_after
