-- `record::range::counts_good` meets its contract. The invariant: what is left of the numbers decides with what was found so far.
use mathlib.Core.Path.{◌≡◌}
use lib.ListN.{drop}
use Rattle.segment.specs.Choice.{both}
use Rattle.record.specs.Range.{counts_good}
use Rattle.record.proofs.range.counts_good.Given as goal

abbrev pub invariant-loop-count : goal.invariant-loop-count
invariant-loop-count l = both l.good (counts_good l.limit (drop l.count-index l.counts)) ≡ counts_good l.limit l.counts
