-- `cleaning::outside::mark_needed` meets its contract.
use mathlib.Core.Path.{sym, ◌∙◌}
use Rattle.cleaning.proofs.FilterLaws.{no-outside, not-needed, is-needed}
use Rattle.cleaning.proofs.outside.mark_needed.Goals as goal

pub returns-then-split-eq0 : goal.returns-then-split-eq0
returns-then-split-eq0 c = no-outside _ _ _ _ c.if-split-eq0.true

pub returns-then-not-any_tombstone : goal.returns-then-not-any_tombstone
returns-then-not-any_tombstone c = not-needed _ _ _ _ (sym c.any_tombstone.ensures ∙ c.if-not-any_tombstone.true)

pub returns : goal.returns
returns c =
    is-needed _ _ _ _ _ (sym c.any_tombstone.ensures ∙ c.if-not-any_tombstone.false) c.note_victims.ensures
    c.mark_outside.ensures
