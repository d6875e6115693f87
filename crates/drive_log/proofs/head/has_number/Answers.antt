-- `drive_log::head::has_number` meets its contract: a law for each return.
use mathlib.Core.Path.{◌∙◌, ap}
use Rattle.std.specs.Int.{from_bool}
use Rattle.drive_log.specs.Heads.{number-none, number-tested}
use Rattle.drive_log.proofs.head.has_number.Goals as goal

pub returns-in-Some : goal.returns-in-Some
returns-in-Some c = c.from.ensures ∙ ap from_bool c.eq.ensures ∙ number-tested _ _ c.digest_in.ensures _ _ c.in-Some.is

pub returns-in-None : goal.returns-in-None
returns-in-None c = number-none _ _ c.digest_in.ensures _ c.in-None.is
