-- `words::left_fits` meets its contract.
use mathlib.Core.Path.{sym, ◌∙◌}
use borrow.Author.Tests.{eq-eqb, ne_eqb}
use Rattle.segment.proofs.Choice.{pick_true, pick-false}
use Rattle.words.specs.WordLaws.{left_fits}
use Rattle.words.proofs.left_fits.Goals as goal

pub returns-then-tag-eq0 : goal.returns-then-tag-eq0
unfolding left_fits
returns-then-tag-eq0 c = sym (pick_true _ _ _ (eq-eqb _ 0 c.if-tag-eq0.true))

pub returns : goal.returns
unfolding left_fits
returns c = c.between.ensures ∙ sym (pick-false _ _ _ (ne_eqb _ 0 c.if-tag-eq0.false))
