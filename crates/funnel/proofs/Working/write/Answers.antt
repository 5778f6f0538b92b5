use Rattle.std.proofs.Common.{sym, ◌∙◌}
use Rattle.std.proofs.lemmas.List.{set-get_or}
use Rattle.funnel.proofs.WrittenBends.{one_written, none_left}
use Rattle.funnel.proofs.Working.write.Goals as goal

pub loop-k-preserved : goal.loop-k-preserved
loop-k-preserved g c = λ fits. one_written _ _ _ _ (c.loop-k.invariant fits) _ (sym c.in-Some.is ∙ c.bend.ensures fits) c.loop-k-test.true

pub returns-in_default : goal.returns-in_default
returns-in_default g c = λ fits room. none_left _ _ _ _ (c.loop-k.invariant fits) _ (set-get_or c.loop-k.out c.loop-k.k _) (sym c.in_default.is ∙ c.bend.ensures fits)
