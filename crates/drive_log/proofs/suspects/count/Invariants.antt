-- `drive_log::suspects::count` meets its contract. The invariant: the total is that of the slots passed.
use Prim.Native.Nat.{◌*◌, ◌≤◌}
use mathlib.Core.Path.{◌≡◌}
use Rattle.slot_map.specs.Bit.{named}
use Rattle.model.specs.Log.{views_of, log_of}
use Rattle.drive_log.specs.Suspects.{hits}
use Rattle.drive_log.proofs.suspects.count.Given as goal

abbrev pub invariant-loop-slot : goal.invariant-loop-slot
invariant-loop-slot l = (l.total ≤ l.slot * 2048) × (l.total ≡ hits l.table (log_of (views_of l.area l.s) (named l.map) l.slot))
