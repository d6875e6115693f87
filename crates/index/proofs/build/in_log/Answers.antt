-- `index::build::in_log` meets its contract.
use native.Mathlib.Omega.{arith}
use Rattle.index.proofs.Turns.{not-in-log-high, not-in-log, in-log-by-room, slot_small}
use Rattle.index.proofs.build.in_log.Goals as goal

pub returns-then-slot-ge32 : goal.returns-then-slot-ge32
returns-then-slot-ge32 c = not-in-log-high _ _ _ _ c.ranges.map.fits c.if-slot-ge32.true

pub returns-then-not-has_slot : goal.returns-then-not-has_slot
returns-then-not-has_slot c = not-in-log _ _ _ _ _ c.has_slot.ensures c.if-not-has_slot.true

pub overflow_mul-result : goal.overflow_mul-result
overflow_mul-result c = omega (arith, slot_small c.args.slot c.args.size c.requires.0 c.requires.1)

pub overflow_add-result : goal.overflow_add-result
overflow_add-result c = omega (arith, slot_small c.args.slot c.args.size c.requires.0 c.requires.1)

pub returns : goal.returns
returns c = in-log-by-room _ _ _ _ _ c.has_slot.ensures c.if-not-has_slot.false
