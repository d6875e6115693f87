-- `writing::find::presence` meets its contract.
use mathlib.Core.Path.{sym, ap}
use Rattle.writing.specs.Tests.{presence_of}
use Rattle.writing.proofs.find.presence.Goals as goal

pub returns-in-Object : goal.returns-in-Object
unfolding presence_of
returns-in-Object c = sym (ap presence_of c.in-Object.is)

pub returns-in-Tombstone : goal.returns-in-Tombstone
unfolding presence_of
returns-in-Tombstone c = sym (ap presence_of c.in-Tombstone.is)

pub returns-in-End : goal.returns-in-End
unfolding presence_of
returns-in-End c = sym (ap presence_of c.in-End.is)

pub returns-in-Damage : goal.returns-in-Damage
unfolding presence_of
returns-in-Damage c = sym (ap presence_of c.in-Damage.is)
