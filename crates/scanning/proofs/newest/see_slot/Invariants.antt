-- `scanning::newest::see_slot` meets its contract. The invariant: this was seen of the entries passed, and the scan goes on from here.
use Prim.Native.Nat.{◌-◌}
use mathlib.Core.Bool.{false}
use mathlib.Core.Path.{◌≡◌}
use lib.ListN.{length}
use Rattle.model.specs.Log.{is_damaged}
use Rattle.drive_log.specs.Extents.{rest_of}
use Rattle.scanning.specs.SeeingLaws.{Seeing}
use Rattle.scanning.proofs.newest.see_slot.Given as goal

abbrev pub invariant-loop-header : goal.invariant-loop-header
invariant-loop-header l = Seeing l.edition l.part l.s l.slot l.key l.before l.at l.seen × (is_damaged (rest_of l.edition l.part l.at) ≡ false)

abbrev pub decreases-loop-header : goal.decreases-loop-header
decreases-loop-header l = length l.part - l.at
