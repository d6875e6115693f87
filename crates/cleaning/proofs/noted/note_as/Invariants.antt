-- `cleaning::noted::note_as` meets its contract. The invariant: the filter with the keys of the entries from here on is that of the segment.
use Prim.Native.Nat.{◌-◌}
use mathlib.Core.Path.{◌≡◌}
use mathlib.Core.Bool.{not}
use lib.ListN.{length}
use Rattle.std.specs.Prelude.{eqb}
use Rattle.segment.specs.Layout.{Layout, digest_size}
use Rattle.index.specs.Build.{entries_at}
use Rattle.cleaning.specs.Walks.{walk_items}
use Rattle.cleaning.specs.Filter.{edition_as, note_entry}
use Rattle.cleaning.proofs.noted.note_as.Given as goal
use Rattle.cleaning.proofs.noted.note_as.Given.{Over}

-- the edition of the walk
abbrev pub own : Over → Layout
own g = edition_as (not (eqb g.row.SECOND 0))

abbrev pub invariant-loop-header : goal.invariant-loop-header
invariant-loop-header g l =
    (walk_items l.edition note_entry l.filter (entries_at l.edition l.s l.at) ≡ walk_items (own g) note_entry l.initial.filter (entries_at (own g) l.s (digest_size (own g))))
    × (length l.filter ≡ length l.initial.filter)

abbrev pub decreases-loop-header : goal.decreases-loop-header
decreases-loop-header g l = length l.s - l.at
