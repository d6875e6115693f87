-- `counting::unless_victim` meets its contract.
use mathlib.Core.Path.{sym, ◌∙◌}
use Rattle.segment.proofs.Choice.{pick_true, pick-false}
use Rattle.counting.proofs.unless_victim.Goals as goal

pub returns-then-has_slot : goal.returns-then-has_slot
returns-then-has_slot c = sym (pick_true _ _ _ (sym c.has_slot.ensures ∙ c.if-has_slot.true))

pub returns : goal.returns
returns c = sym (pick-false _ _ _ (sym c.has_slot.ensures ∙ c.if-has_slot.false))
