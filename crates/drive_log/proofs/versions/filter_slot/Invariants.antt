-- `drive_log::versions::filter_slot` meets its contract. The invariant: the entries passed share no version but a suspect's, and their bits are set.
use Prim.Native.Nat.{◌+◌, ◌-◌}
use lib.ListN.{length}
use Rattle.slot_map.specs.Bit.{named}
use Rattle.model.specs.Log.{views_of, log_of}
use Rattle.drive_log.specs.Filter.{Filtering}
use Rattle.drive_log.proofs.versions.filter_slot.Given as goal

abbrev pub invariant-loop-header : goal.invariant-loop-header
invariant-loop-header l = Filtering l.edition l.part l.slot (log_of (views_of l.area l.s) (named l.map) l.n) (log_of (views_of l.area l.s) (named l.map) (l.slot + 1)) l.at l.filter l.table

abbrev pub decreases-loop-header : goal.decreases-loop-header
decreases-loop-header l = length l.part - l.at
