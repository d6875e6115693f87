-- `drive_log::parts::survey_part` meets its contract.
use Rattle.drive_log.specs.Editions.{edition_if}
use Rattle.drive_log.proofs.parts.survey_part.Goals as goal

pub returns-in-First : goal.returns-in-First
unfolding edition_if
returns-in-First c = rw c.in-First.is c.survey_as.ensures

pub returns-in-Second : goal.returns-in-Second
unfolding edition_if
returns-in-Second c = rw c.in-Second.is c.survey_as-in-Second.ensures
