-- `joining::pairs::lowest_pair` meets its contract.
use mathlib.Core.Path.{◌≡◌}
use mathlib.Core.Option.{none}
use Rattle.segment.specs.Layout.{digest_size}
use Rattle.joining.specs.Weights.{numbers_fit}
use Rattle.joining.specs.PairLaws.{pairs_below}
use Rattle.joining.proofs.pairs.lowest_pair.Given as goal

abbrev pub invariant-loop-i : goal.invariant-loop-i
invariant-loop-i l = pairs_below (numbers_fit l.totals l.shares l.split (digest_size l.edition)) l.split.slots l.i ≡ none
