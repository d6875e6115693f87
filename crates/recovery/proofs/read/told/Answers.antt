-- `recovery::read::told` meets its contract.
use mathlib.Core.Path.{sym, ap, ◌∙◌}
use borrow.Author.Rules.{rules}
use Rattle.recovery.specs.Lookups.{told_by}
use Rattle.recovery.proofs.read.told.Goals as goal

pub returns-in_err-object : goal.returns-in_err-object
unfolding told_by
returns-in_err-object c = search rules

pub returns : goal.returns
unfolding told_by
returns c = search rules
