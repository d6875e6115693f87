-- `recovery::recover::slots_seen` meets its contract. The invariant: what is left of the list, added to the slots seen, gives
-- the whole answer.
use mathlib.Core.Path.{◌≡◌}
use lib.ListN.{drop}
use Rattle.recovery.specs.Order.{seen_from}
use Rattle.recovery.proofs.recover.slots_seen.Given as goal

abbrev pub invariant-loop-slot : goal.invariant-loop-slot
invariant-loop-slot l = seen_from l.n l.seen (drop l.slot-index l.order) ≡ seen_from l.n 0 l.order
