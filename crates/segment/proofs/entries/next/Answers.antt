-- `segment::entries::next` meets its contract.
use Rattle.segment.specs.Entries.{next_read}
use Rattle.segment.proofs.EntriesLaws.{next-read}
use Rattle.segment.proofs.entries.next.Goals as goal

pub returns-in-Object : goal.returns-in-Object
unfolding next_read
returns-in-Object c = next-read _ _ _ _ c.read.ensures c.in-Object.is

pub returns-in-Tombstone : goal.returns-in-Tombstone
unfolding next_read
returns-in-Tombstone c = next-read _ _ _ _ c.read.ensures c.in-Tombstone.is

pub returns-in-End : goal.returns-in-End
unfolding next_read
returns-in-End c = next-read _ _ _ _ c.read.ensures c.in-End.is

pub returns-in-Damage : goal.returns-in-Damage
unfolding next_read
returns-in-Damage c = next-read _ _ _ _ c.read.ensures c.in-Damage.is
