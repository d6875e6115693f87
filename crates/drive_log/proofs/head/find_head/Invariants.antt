-- `drive_log::head::find_head` meets its contract. The invariant: the newest so far is the head of the slots passed.
use mathlib.Core.Path.{◌≡◌}
use Rattle.model.specs.Log.{views_of, head_of}
use Rattle.drive_log.specs.Heads.{told}
use Rattle.drive_log.proofs.head.find_head.Given as goal

abbrev pub invariant-loop-slot : goal.invariant-loop-slot
invariant-loop-slot l = (l.best ≡ told (head_of (views_of l.area l.s) l.slot))
