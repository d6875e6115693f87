-- `index::build::index_slot` meets its contract. The invariant: going through the entries from here on gives the whole tally.
use Prim.Native.Nat.{◌-◌, ◌≤◌}
use mathlib.Core.Path.{◌≡◌}
use lib.ListN.{length}
use Rattle.model.specs.Log.{segment_of, placed_in}
use Rattle.index.specs.Insert.{counted, insert_all}
use Rattle.index.specs.Build.{entries_at, slot_entries}
use Rattle.index.proofs.build.index_slot.Given as goal

abbrev pub invariant-loop-header : goal.invariant-loop-header
invariant-loop-header l =
    (length l.cells ≡ length l.initial.cells)
    × (l.keys ≤ length l.cells)
    × (insert_all l.area l.size (placed_in l.edition l.slot (entries_at l.edition (segment_of l.area l.size l.slot) l.at)) (counted l.cells l.keys)
    ≡ insert_all l.area l.size (slot_entries l.edition l.area l.size l.slot) (counted l.initial.cells l.keys-2))

abbrev pub decreases-loop-header : goal.decreases-loop-header
decreases-loop-header l = l.size - l.at
