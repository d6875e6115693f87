-- `telling::next::fits_slot` meets its contract.
use borrow.Author.Rules.{rules}
use native.Mathlib.Omega.{arith}
use Rattle.telling.proofs.NextLaws.{slot-empty, slot-unread, slot-past, slot-rest, slot-end-fits}
use Rattle.telling.proofs.next.fits_slot.Goals as goal

pub returns-then-count-eq0 : goal.returns-then-count-eq0
returns-then-count-eq0 c = search (slot-empty, rules)

pub returns-then-work-count : goal.returns-then-work-count
returns-then-work-count c = search (slot-unread, rules)

pub returns-then-size-offset : goal.returns-then-size-offset
returns-then-size-offset c = search (slot-past, rules)

pub overflow_mul-result : goal.overflow_mul-result
overflow_mul-result c = let a = c.args in omega (arith, slot-end-fits a.slot a.size (search rules) (search rules))

pub overflow_add-result : goal.overflow_add-result
overflow_add-result c = let a = c.args in omega (arith, slot-end-fits a.slot a.size (search rules) (search rules))

pub returns : goal.returns
returns c = search (slot-rest, rules)
