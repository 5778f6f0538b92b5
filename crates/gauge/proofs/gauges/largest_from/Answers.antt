use Rattle.std.proofs.Common.{arith}
use Rattle.gauge.proofs.Tables.{one_more, max_is}
use Rattle.gauge.proofs.gauges.largest_from.Goals as goal

pub loop-form-preserved : goal.loop-form-preserved
loop-form-preserved c = one_more _ _ _ _ c.args.forms.now c.loop-form.form-index _ _ (omega arith) c.loop-form.invariant c.at.ensures (max_is _ c.at.result c.loop-form.best c.max-best.ensures)
