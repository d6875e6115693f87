-- `recovery::recover::see_slot` meets its contract.
use borrow.Author.Rules.{rules}
use mathlib.Core.Path.{◌∙◌}
use Rattle.recovery.proofs.Order.{see-in, see-out}
use Rattle.recovery.proofs.recover.see_slot.Goals as goal

pub returns-then-slot-n : goal.returns-then-slot-n
returns-then-slot-n c = c.with_slot.ensures ∙ search (see-in, rules)

pub returns : goal.returns
returns c = search (see-out, rules)
