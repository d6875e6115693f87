-- `cleaning::tombstones::holds_tombstone` meets its contract. The invariant: the entries from here on give the whole answer.
use Prim.Native.Nat.{◌-◌}
use mathlib.Core.Path.{◌≡◌}
use lib.ListN.{length}
use Rattle.segment.specs.Layout.{digest_size}
use Rattle.index.specs.Build.{entries_at}
use Rattle.cleaning.specs.Tombstones.{tombstone_in}
use Rattle.cleaning.proofs.tombstones.holds_tombstone.Given as goal

abbrev pub invariant-loop-header : goal.invariant-loop-header
invariant-loop-header l = tombstone_in (entries_at l.edition l.s l.at) ≡ tombstone_in (entries_at l.edition l.s (digest_size l.edition))

abbrev pub decreases-loop-header : goal.decreases-loop-header
decreases-loop-header l = length l.s - l.at
