-- `drive_log::hits::count_in` meets its contract.
use Rattle.drive_log.specs.Editions.{edition_if}
use Rattle.drive_log.proofs.hits.count_in.Goals as goal

pub returns-in-First : goal.returns-in-First
unfolding edition_if
returns-in-First c = rw c.in-First.is c.count_as.ensures

pub returns-in-Second : goal.returns-in-Second
unfolding edition_if
returns-in-Second c = rw c.in-Second.is c.count_as-in-Second.ensures
