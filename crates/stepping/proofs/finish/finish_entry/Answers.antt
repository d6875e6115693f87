-- `stepping::finish::finish_entry` meets its contract.
use native.Mathlib.Omega.{arith}
use Rattle.stepping.proofs.FinishLaws.{place-fits, object-short, entry-object, entry-tombstone, entry-end, entry-damage}
use Rattle.stepping.proofs.finish.finish_entry.Goals as goal

pub put_entry-requires : goal.put_entry-requires
put_entry-requires c =
    let a = c.args in
    (omega arith, omega arith, object-short _ a.rec a.done a.area.now a.index.now a.slot a.offset c.stands_in.ensures c.in-Object.is c.requires.2, c.requires.5, place-fits a.slot a.rec.size a.offset (omega arith) (omega arith) (omega arith))

pub put_entry-requires-in-Tombstone : goal.put_entry-requires-in-Tombstone
put_entry-requires-in-Tombstone c =
    let a = c.args in
    (omega arith, omega arith, omega arith, c.requires.5, place-fits a.slot a.rec.size a.offset (omega arith) (omega arith) (omega arith))

pub returns-in-Object : goal.returns-in-Object
returns-in-Object c = entry-object _ _ _ _ _ _ _ c.stands_in.ensures c.in-Object.is c.put_entry.ensures

pub returns-in-Tombstone : goal.returns-in-Tombstone
returns-in-Tombstone c = entry-tombstone _ _ _ _ _ _ _ c.stands_in.ensures c.in-Tombstone.is c.put_entry-in-Tombstone.ensures

pub returns-in-End : goal.returns-in-End
returns-in-End c = entry-end _ _ _ _ _ _ _ c.stands_in.ensures c.refused.ensures c.in-End.is

pub returns-in-Damage : goal.returns-in-Damage
returns-in-Damage c = entry-damage _ _ _ _ _ _ _ c.stands_in.ensures c.refused-in-Damage.ensures c.in-Damage.is
