-- `drive_log::table::occupied` meets its contract. The invariant: the count and the cells that are left give the whole count.
use Prim.Native.Nat.{◌+◌, ◌≤◌}
use mathlib.Core.Path.{◌≡◌}
use lib.ListN.{drop}
use Rattle.drive_log.specs.Tables.{occupied}
use Rattle.drive_log.proofs.table.occupied.Given as goal

abbrev pub invariant-loop-cell : goal.invariant-loop-cell
invariant-loop-cell l = (l.count ≤ l.cell-index) × (l.count + occupied (drop l.cell-index l.table) ≡ occupied l.table)
