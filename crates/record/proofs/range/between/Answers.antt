-- `record::range::between` meets its contract.
use borrow.Author.Tests.{le-leb, lt-leb}
use Rattle.segment.specs.Choice.{both}
use Rattle.record.specs.Range.{between}
use Rattle.record.proofs.range.between.Goals as goal

pub returns-then-low-x : goal.returns-then-low-x
unfolding between both
returns-then-low-x c = rw (le-leb c.args.low c.args.x c.if-low-x.true)

pub returns-else-low-x : goal.returns-else-low-x
unfolding between both
returns-else-low-x c = rw (lt-leb c.args.low c.args.x c.if-low-x.false)
