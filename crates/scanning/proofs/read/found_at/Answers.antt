-- `scanning::read::found_at` meets its contract: in each arm what stands there is known.
use mathlib.Core.Path.{sym, ◌∙◌, ap}
use Rattle.scanning.specs.Seeking.{sought_read}
use Rattle.scanning.proofs.read.found_at.Goals as goal

pub returns-in-Object : goal.returns-in-Object
unfolding sought_read
returns-in-Object c = ap (sought_read _) (sym c.in-Object.is ∙ c.entry_at.ensures)

pub returns-in-Tombstone : goal.returns-in-Tombstone
unfolding sought_read
returns-in-Tombstone c = ap (sought_read _) (sym c.in-Tombstone.is ∙ c.entry_at.ensures)

pub returns-in-End : goal.returns-in-End
unfolding sought_read
returns-in-End c = ap (sought_read _) (sym c.in-End.is ∙ c.entry_at.ensures)

pub returns-in-Damage : goal.returns-in-Damage
unfolding sought_read
returns-in-Damage c = ap (sought_read _) (sym c.in-Damage.is ∙ c.entry_at.ensures)
