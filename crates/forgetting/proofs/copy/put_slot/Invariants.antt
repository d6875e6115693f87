-- `forgetting::copy::put_slot` meets its contract. The invariant: with what comes from here on, the copy is that of the slot.
use Prim.Native.Nat.{◌-◌}
use lib.ListN.{length}
use Rattle.segment.specs.Copied.{Copying}
use Rattle.forgetting.specs.Forgot.{forgot_slot}
use Rattle.forgetting.proofs.ForgotLaws.{forgot_from}
use Rattle.segment.specs.Layout.{digest_size}
use Rattle.forgetting.proofs.copy.put_slot.Given as goal

abbrev pub invariant-loop-header : goal.invariant-loop-header
invariant-loop-header l =
    Copying (forgot_slot l.edition l.into l.area l.cells l.marks l.live l.size l.slot) l.initial.work (digest_size l.into) (forgot_from l.edition l.into l.area l.cells l.marks l.live l.size l.slot l.s l.at) l.work l.to

abbrev pub decreases-loop-header : goal.decreases-loop-header
decreases-loop-header l = length l.s - l.at
