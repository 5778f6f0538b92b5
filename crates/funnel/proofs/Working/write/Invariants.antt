use Rattle.std.proofs.Common.{◌≤◌, length}
use Rattle.deque.specs.Contents.{contents}
use Rattle.funnel.specs.Strings.{string_of}
use Rattle.funnel.proofs.WrittenBends.{Partly}
use Rattle.funnel.proofs.Working.write.Given as goal

abbrev pub invariant-loop-k : goal.invariant-loop-k
invariant-loop-k g l = l.self.chains.near ≤ length (contents l.self.chains.row l.self.slots.now) → Partly (string_of l.self) l.initial.out l.k l.out
