-- `drive_log::editions::edition_if` meets its contract.
use Rattle.drive_log.specs.Editions.{edition_if}
use Rattle.drive_log.proofs.editions.edition_if.Goals as goal

pub returns-then-second : goal.returns-then-second
unfolding edition_if
returns-then-second c = rw c.if-second.true

pub returns : goal.returns
unfolding edition_if
returns c = rw c.if-second.false
