-- `drive_log::head::same_edition` meets its contract.
use mathlib.Core.Path.{◌∙◌}
use Rattle.drive_log.specs.Heads.{same-tested}
use Rattle.drive_log.proofs.head.same_edition.Goals as goal

pub returns : goal.returns
returns c = c.eq.ensures ∙ same-tested _ _
