-- `recovery::read::look` meets its contract: an arm for each answer of the reader.
use mathlib.Core.Path.{sym, ◌∙◌, ap}
use Rattle.recovery.specs.Lookups.{lookup_of}
use Rattle.recovery.proofs.read.look.Goals as goal

pub returns-in-Object : goal.returns-in-Object
unfolding lookup_of
returns-in-Object c = ap (lookup_of _) (sym c.in-Object.is ∙ c.entry_at.ensures)

pub returns-in-Tombstone : goal.returns-in-Tombstone
unfolding lookup_of
returns-in-Tombstone c = ap (lookup_of _) (sym c.in-Tombstone.is ∙ c.entry_at.ensures)

pub returns-in-End : goal.returns-in-End
unfolding lookup_of
returns-in-End c = ap (lookup_of _) (sym c.in-End.is ∙ c.entry_at.ensures)

pub returns-in-Damage : goal.returns-in-Damage
unfolding lookup_of
returns-in-Damage c = ap (lookup_of _) (sym c.in-Damage.is ∙ c.entry_at.ensures)
