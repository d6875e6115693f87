-- `forgetting::room::measure_slot` meets its contract. The invariant: with the length of what comes from here on the total is that of
-- the slot.
use Prim.Native.Nat.{◌+◌, ◌*◌, ◌-◌, ◌≤◌}
use mathlib.Core.Path.{◌≡◌}
use lib.ListN.{length}
use Rattle.forgetting.specs.Forgot.{forgot_slot}
use Rattle.forgetting.proofs.ForgotLaws.{forgot_from}
use Rattle.forgetting.proofs.room.measure_slot.Given as goal

abbrev pub invariant-loop-header : goal.invariant-loop-header
invariant-loop-header l =
    (l.total + length (forgot_from l.edition l.into l.area l.cells l.marks l.live l.size l.slot l.s l.at) ≡ length (forgot_slot l.edition l.into l.area l.cells l.marks l.live l.size l.slot))
    × (l.total ≤ 2 * l.at)
    × (l.at ≤ length l.s)

abbrev pub decreases-loop-header : goal.decreases-loop-header
decreases-loop-header l = length l.s - l.at
