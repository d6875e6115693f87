-- `drive_log::marks::mark_all` meets its contract. The invariant: the marks of the cells passed are set.
use mathlib.Core.Path.{◌≡◌}
use lib.ListN.{length}
use Rattle.drive_log.specs.Marks.{MarkedTo}
use Rattle.drive_log.proofs.marks.mark_all.Given as goal

abbrev pub invariant-loop-cell : goal.invariant-loop-cell
invariant-loop-cell l = (length l.marks ≡ length l.initial.marks) × MarkedTo l.cell-index l.marks l.table
