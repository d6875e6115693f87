-- `telling::tell::tell` meets its contract.
use mathlib.Core.Path.{ap}
use mathlib.Core.Bool.{not}
use mathlib.Core.Path.{sym, ◌∙◌}
use Rattle.laws.specs.OperationsKept.{edition-laws}
use Rattle.telling.proofs.ToldLaws.{tell-bad, tell-told}
use Rattle.telling.proofs.tell.tell.Goals as goal

pub returns-then-not-fits_lent : goal.returns-then-not-fits_lent
returns-then-not-fits_lent c = tell-bad _ (edition-laws _) _ _ _ c.fits_lent.ensures (ap not c.if-not-fits_lent.true)

pub store_of-answer-requires : goal.store_of-answer-requires
store_of-answer-requires c = sym c.fits_lent.ensures ∙ c.if-not-fits_lent.false

pub returns : goal.returns
returns c = tell-told _ (edition-laws _) _ _ _ c.store_of-answer.ensures
