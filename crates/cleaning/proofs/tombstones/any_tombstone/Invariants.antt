-- `cleaning::tombstones::any_tombstone` meets its contract. The invariant: no slot so far holds one.
use mathlib.Core.Path.{◌≡◌}
use mathlib.Core.Bool.{false}
use Rattle.laws.specs.LogLaws.{any_below}
use Rattle.cleaning.specs.Tombstones.{victim_holds}
use Rattle.cleaning.proofs.tombstones.any_tombstone.Given as goal

abbrev pub invariant-loop-i : goal.invariant-loop-i
invariant-loop-i l = any_below (victim_holds l.area l.split) l.i ≡ false
