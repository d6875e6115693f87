-- `drive_log::head::shared_number` meets its contract. The invariant: the count is that of the slots passed.
use mathlib.Core.Path.{◌≡◌}
use Rattle.model.specs.Log.{views_of}
use Rattle.model.specs.Recovery.{sharing}
use Rattle.drive_log.proofs.head.shared_number.Given as goal

abbrev pub invariant-loop-slot : goal.invariant-loop-slot
invariant-loop-slot l = (l.count ≡ sharing (views_of l.area l.s) l.number.0 l.slot)
