-- `drive_log::table::search` meets its contract. The invariant: the cells before low are below the version, those from high on are not.
use Prim.Native.Nat.{◌-◌}
use Rattle.drive_log.specs.Tables.{Between}
use Rattle.drive_log.proofs.table.search.Given as goal

abbrev pub invariant-loop-low : goal.invariant-loop-low
invariant-loop-low l = Between l.table l.version.0 l.low l.high

abbrev pub decreases-loop-low : goal.decreases-loop-low
decreases-loop-low l = l.high - l.low
