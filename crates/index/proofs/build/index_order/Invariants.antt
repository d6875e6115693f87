-- `index::build::index_order` meets its contract. The invariant: going through the slots from here on gives the whole tally.
use Prim.Native.Nat.{◌≤◌}
use mathlib.Core.Path.{◌≡◌}
use lib.ListN.{length, drop}
use Rattle.index.specs.Insert.{counted, insert_all}
use Rattle.index.specs.Build.{listed}
use Rattle.index.proofs.build.index_order.Given as goal

abbrev pub invariant-loop-slot : goal.invariant-loop-slot
invariant-loop-slot l =
    (length l.cells ≡ length l.initial.cells)
    × (l.keys ≤ length l.cells)
    × (insert_all l.area l.size (listed l.area l.size l.map (drop l.slot-index l.order)) (counted l.cells l.keys)
    ≡ insert_all l.area l.size (listed l.area l.size l.map l.order) (counted l.initial.cells 0))
