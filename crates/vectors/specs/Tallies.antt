-- most       the largest number of 64 bits, at which a count stops
-- more       one more, at most that
-- counted    a tally with one case more, of the outcome that it had
-- of_sort    the tally of a sort
use Rattle.std.specs.Prelude.{ℕ, ◌+◌, min}
use Rattle.vectors.specs.declared.report.Outcome.{Outcome}
use Rattle.vectors.specs.declared.report.Outcome.TheVariants.{Agrees, Differs, Skipped}
use Rattle.vectors.specs.declared.report.Tally.{Tally}
use Rattle.vectors.specs.declared.report.Tallies.{Tallies}
use Rattle.vectors.specs.declared.reader.Sort.{Sort}
use Rattle.vectors.specs.declared.reader.Sort.TheVariants.{Small, Vet, Walks, Calls, Gen}

abbrev pub most : ℕ
most = 18446744073709551615

abbrev pub more : ℕ → ℕ
more n = min (n + 1) most

abbrev pub counted : Outcome → Tally → Tally
counted Agrees t = record t { agree = more t.agree }
counted (Differs expected got) t = record t { differ = more t.differ }
counted Skipped t = record t { skipped = more t.skipped }

abbrev pub of_sort : Sort → Tallies → Tally
of_sort Small t = t.small
of_sort Vet t = t.vet
of_sort Walks t = t.walks
of_sort Calls t = t.calls
of_sort Gen t = t.generated
