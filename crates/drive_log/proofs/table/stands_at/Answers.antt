-- `drive_log::table::stands_at` meets its contract.
use Rattle.drive_log.specs.Tables.{search-here, search-past}
use Rattle.drive_log.proofs.table.stands_at.Goals as goal

pub returns-then-at-table : goal.returns-then-at-table
returns-then-at-table c = search-here _ _ _ c.requires.between c.requires.sorted c.if-at-table.true

pub returns : goal.returns
returns c = search-past _ _ _ c.requires.between c.if-at-table.false
