-- `record::range::limits_good` meets its contract.
use mathlib.Core.Path.{ap}
use mathlib.Core.Bool.{not}
use Rattle.record.specs.RangeLaws.{limits_good, stop, go, ends, goes}
use Rattle.record.proofs.range.limits_good.Goals as goal

pub returns-then-not-slots_good : goal.returns-then-not-slots_good
unfolding limits_good
returns-then-not-slots_good c = stop _ c.slots_good.ensures (ap not c.if-not-slots_good.true)

pub returns-then-size_good : goal.returns-then-size_good
unfolding limits_good
returns-then-size_good c =
    go _ c.slots_good.ensures (ap not c.if-not-slots_good.false)
    (goes _ c.size_good.ensures c.if-size_good.true c.cells_good.ensures)

pub returns-else-size_good : goal.returns-else-size_good
unfolding limits_good
returns-else-size_good c =
    go _ c.slots_good.ensures (ap not c.if-not-slots_good.false) (ends _ c.size_good.ensures c.if-size_good.false)
