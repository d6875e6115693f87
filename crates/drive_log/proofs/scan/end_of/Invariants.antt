-- `drive_log::scan::end_of` meets its contract. The invariant: the scan from here on ends where the whole scan does.
use Prim.Native.Nat.{◌-◌}
use mathlib.Core.Path.{◌≡◌}
use lib.ListN.{length}
use Rattle.model.specs.Log.{scan, end_of}
use Rattle.drive_log.specs.Extents.{rest_of}
use Rattle.drive_log.proofs.scan.end_of.Given as goal

abbrev pub invariant-loop-header : goal.invariant-loop-header
invariant-loop-header l = end_of (rest_of l.edition l.part l.at) ≡ end_of (scan l.edition l.part)

abbrev pub decreases-loop-header : goal.decreases-loop-header
decreases-loop-header l = length l.part - l.at
