-- `record::reach::holds_table` meets its contract.
use borrow.Author.Tests.{le-leb, lt-leb}
use Rattle.segment.specs.Choice.{both}
use Rattle.record.specs.Reach.{holds_table}
use Rattle.record.proofs.reach.holds_table.Goals as goal

pub returns-then-tables-table : goal.returns-then-tables-table
unfolding holds_table both
returns-then-tables-table c =
    let a = c.args in
    rw (le-leb a.tables.first a.table c.if-tables-table.true)

pub returns-else-tables-table : goal.returns-else-tables-table
unfolding holds_table both
returns-else-tables-table c = let a = c.args in rw (lt-leb a.tables.first a.table c.if-tables-table.false)
