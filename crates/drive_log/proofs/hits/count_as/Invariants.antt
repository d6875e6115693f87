-- `drive_log::hits::count_as` meets its contract. The invariant: counting on from here gives the whole count.
use Prim.Native.Nat.{◌-◌}
use lib.ListN.{length}
use mathlib.Core.Bool.{not}
use Rattle.std.specs.Prelude.{eqb}
use Rattle.drive_log.specs.Editions.{edition_if}
use Rattle.drive_log.specs.Counts.{Counting}
use Rattle.drive_log.proofs.hits.count_as.Given as goal

abbrev pub invariant-loop-header : goal.invariant-loop-header
invariant-loop-header g l = Counting (edition_if (not (eqb g.row.SECOND 0))) l.part l.table l.at l.count

abbrev pub decreases-loop-header : goal.decreases-loop-header
decreases-loop-header g l = length l.part - l.at
