-- `fullness::fewer_of` meets its contract.
use mathlib.Core.Path.{sym, ◌∙◌}
use Rattle.fullness.specs.FewestLaws.{not_named, more_bytes, no_more}
use Rattle.fullness.proofs.fewer_of.Goals as goal

pub returns-then-not-has_slot : goal.returns-then-not-has_slot
returns-then-not-has_slot c = not_named _ _ _ _ (sym c.has_slot.ensures ∙ c.if-not-has_slot.true)

pub returns-then-counts-held : goal.returns-then-counts-held
returns-then-counts-held c = more_bytes _ _ _ _ c.if-counts-held.true

pub returns : goal.returns
returns c = no_more _ _ _ _ (sym c.has_slot.ensures ∙ c.if-not-has_slot.false) c.if-counts-held.false
