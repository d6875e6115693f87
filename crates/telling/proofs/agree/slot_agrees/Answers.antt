-- `telling::agree::slot_agrees` meets its contract.
use borrow.Author.Rules.{rules}
use Rattle.telling.proofs.AgreeLaws.{slot-past, slot-spent, slot-rest}
use Rattle.telling.proofs.agree.slot_agrees.Goals as goal

pub returns-then-rec-slot : goal.returns-then-rec-slot
returns-then-rec-slot c = search (slot-past, rules)

pub returns-then-number-ge-NUMBER_LIMIT : goal.returns-then-number-ge-NUMBER_LIMIT
returns-then-number-ge-NUMBER_LIMIT c = search (slot-spent, rules)

pub returns : goal.returns
returns c = search (slot-rest, rules)
