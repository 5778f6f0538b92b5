use Rattle.funnel.proofs.GainedEnds.{gained_left, gained_right}
use Rattle.funnel.proofs.Working.gain.Goals as goal

pub returns-in-Left-clause-gains : goal.returns-in-Left-clause-gains
returns-in-Left-clause-gains g c = gained_left g.P.PointKind.at c.args.side c.in-Left.is c.args.corner c.args.self.now c.gain_near.new.self c.gain_near.ensures.nears

pub returns-in-Right-clause-gains : goal.returns-in-Right-clause-gains
returns-in-Right-clause-gains g c =
    gained_right g.P.PointKind.at c.args.side c.in-Right.is c.args.corner c.args.self.now c.flip.new.self c.gain_near-in-Right.new.self c.flip-in-Right.new.self
    c.flip.ensures.room c.flip.ensures.flips c.gain_near-in-Right.ensures.nears c.flip-in-Right.ensures.flips
