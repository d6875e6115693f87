-- `cleaning::outside::mark_slot` meets its contract.
use Prim.Native.Nat.{◌-◌}
use mathlib.Core.Path.{◌≡◌}
use lib.ListN.{length}
use Rattle.segment.specs.Layout.{digest_size}
use Rattle.index.specs.Build.{entries_at}
use Rattle.cleaning.specs.Walks.{walk_items}
use Rattle.cleaning.specs.Filter.{sift_entry}
use Rattle.cleaning.proofs.outside.mark_slot.Given as goal

-- The invariant: the marks with those of the entries from here on are those of the slot.
abbrev pub invariant-loop-header : goal.invariant-loop-header
invariant-loop-header l =
    (walk_items l.edition (sift_entry l.area l.cells l.filter) l.marks (entries_at l.edition l.s l.at)
    ≡ walk_items l.edition (sift_entry l.area l.cells l.filter) l.initial.marks (entries_at l.edition l.s (digest_size l.edition)))
    × (length l.marks ≡ length l.initial.marks)

abbrev pub decreases-loop-header : goal.decreases-loop-header
decreases-loop-header l = length l.s - l.at
