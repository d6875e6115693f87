-- `telling::tell::byte_from` meets its contract.
use mathlib.Core.Path.{sym}
use Rattle.segment.proofs.Choice.{pick_true, pick-false}
use Rattle.telling.proofs.tell.byte_from.Goals as goal

pub bounds-work-from : goal.bounds-work-from
bounds-work-from c = c.requires c.if-copied.true

pub returns-then-copied : goal.returns-then-copied
returns-then-copied c = sym (pick_true _ _ _ c.if-copied.true)

pub returns : goal.returns
returns c = sym (pick-false _ _ _ c.if-copied.false)
