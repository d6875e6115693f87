-- `drive_log::marks::is_suspect` meets its contract.
use mathlib.Core.Path.{sym, ◌∙◌}
use Rattle.drive_log.specs.Marks.{unmarked}
use Rattle.drive_log.proofs.marks.is_suspect.Goals as goal

pub returns-then-not-has_mark : goal.returns-then-not-has_mark
returns-then-not-has_mark c = unmarked _ _ c.requires.marked _ (sym c.has_mark.ensures ∙ c.if-not-has_mark.true)
