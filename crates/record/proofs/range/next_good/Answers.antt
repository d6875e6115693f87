-- `record::range::next_good` meets its contract.
use borrow.Author.Tests.{le-leb, lt-leb}
use Rattle.segment.specs.Choice.{both}
use Rattle.record.specs.Range.{between}
use Rattle.record.proofs.range.next_good.Goals as goal

pub returns-then-next-ge1 : goal.returns-then-next-ge1
unfolding between both
returns-then-next-ge1 c = rw (le-leb 1 c.args.next.0 c.if-next-ge1.true, c.version_limit.ensures)

pub returns-else-next-ge1 : goal.returns-else-next-ge1
unfolding between both
returns-else-next-ge1 c = rw (lt-leb 1 c.args.next.0 c.if-next-ge1.false)
