-- `cleaning::kept::measure_slot` meets its contract. The invariant: with the length of what is kept from here on the total
-- is that of the slot, and with the entries from here on what is chosen is.
use Prim.Native.Nat.{◌+◌, ◌*◌, ◌-◌, ◌≤◌}
use mathlib.Core.Path.{◌≡◌}
use lib.ListN.{length}
use Rattle.segment.specs.Layout.{digest_size}
use Rattle.model.specs.Log.{placed_in}
use Rattle.index.specs.Build.{entries_at}
use Rattle.cleaning.specs.Kept.{kept_test, kept_slot}
use Rattle.cleaning.specs.Chosen.{choose_placed}
use Rattle.cleaning.proofs.KeptLaws.{kept_from}
use Rattle.cleaning.proofs.kept.measure_slot.Given as goal

abbrev pub invariant-loop-header : goal.invariant-loop-header
invariant-loop-header l =
    (l.total + length (kept_from l.edition l.into l.area l.cells l.marks l.size l.slot l.s l.at) ≡ length (kept_slot l.edition l.into l.area l.cells l.marks l.size l.slot))
    × (l.total ≤ 2 * l.at)
    × (l.at ≤ length l.s)
    × (choose_placed (kept_test l.area l.cells l.marks) l.size l.chosen (placed_in l.edition l.slot (entries_at l.edition l.s l.at))
    ≡ choose_placed (kept_test l.area l.cells l.marks) l.size l.initial.chosen (placed_in l.edition l.slot (entries_at l.edition l.s (digest_size l.edition))))
    × (length l.chosen ≡ length l.initial.chosen)

abbrev pub decreases-loop-header : goal.decreases-loop-header
decreases-loop-header l = length l.s - l.at
