use Rattle.funnel.proofs.ReadBack.{newest_first, one_read}
use Rattle.funnel.proofs.strings.read_back.Goals as goal

pub loop-crossing-preserved : goal.loop-crossing-preserved
loop-crossing-preserved g c =
    one_read _ _ _ c.args.chains.now _ _ c.in-Some.field-0.now _ _ c.loop-crossing.chains c.step_back-present.new.chains (newest_first (λ b. b.now) c.loop-crossing.yielded c.in-Some.field-0)
    c.step_back-present.ensures.portal c.step_back-present.ensures.widens c.step_back-present.ensures.room c.loop-crossing.invariant
