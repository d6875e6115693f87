-- `joining::pairs::partner` meets its contract.
use mathlib.Core.Path.{◌≡◌}
use mathlib.Core.Option.{none}
use Rattle.segment.specs.Layout.{digest_size}
use Rattle.model.specs.Joining.{partner_of}
use Rattle.joining.specs.Weights.{numbers_fit}
use Rattle.joining.proofs.pairs.partner.Given as goal

abbrev pub invariant-loop-j : goal.invariant-loop-j
invariant-loop-j l = partner_of (numbers_fit l.totals l.shares l.split (digest_size l.edition)) l.j l.i ≡ none
