-- `joining::weights::weigh_slot` meets its contract.
use Prim.Native.Nat.{◌-◌}
use mathlib.Core.Path.{◌≡◌}
use lib.ListN.{length}
use Rattle.segment.specs.Layout.{Layout, entry_size}
use Rattle.joining.specs.WeightsLaws.{Weighing}
use Rattle.joining.proofs.weights.weigh_slot.Given as goal

-- the new head's edition is not at hand in the loop, but how long an entry of it is before the value
abbrev pub invariant-loop-header : goal.invariant-loop-header
invariant-loop-header l =
    (W : Layout) → l.counted ≡ entry_size W 0 → Weighing l.edition W l.area l.notes l.size l.slot l.s l.initial.shares l.shares l.at l.total

abbrev pub decreases-loop-header : goal.decreases-loop-header
decreases-loop-header l = length l.s - l.at
