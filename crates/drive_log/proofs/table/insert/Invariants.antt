-- `drive_log::table::insert` meets its contract. The invariant: the cells and the number carried are the table's and the version.
use Prim.Native.Nat.{◌-◌}
use Rattle.drive_log.specs.Tables.{Putting}
use Rattle.drive_log.proofs.table.insert.Given as goal

abbrev pub invariant-loop-carried : goal.invariant-loop-carried
invariant-loop-carried l = Putting l.initial.table l.initial.carried l.table l.cell l.carried

abbrev pub decreases-loop-carried : goal.decreases-loop-carried
decreases-loop-carried l = 192 - l.cell
