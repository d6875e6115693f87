-- `recovery::recover::order_bad` meets its contract.
use mathlib.Core.Path.{sym}
use Rattle.recovery.proofs.Order.{order-length, order-slots}
use Rattle.recovery.proofs.recover.order_bad.Goals as goal

pub returns-then-order-n : goal.returns-then-order-n
returns-then-order-n c = sym (order-length _ c.args.order.now c.if-order-n.true)

pub returns : goal.returns
returns c = order-slots _ c.args.order.now _ c.requires.1 c.if-order-n.false c.slots_seen.ensures
