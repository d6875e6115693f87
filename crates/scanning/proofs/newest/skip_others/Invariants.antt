-- `scanning::newest::skip_others` meets its contract. The invariant: no entry passed is of the key, and the last length is that of the last kind.
use Prim.Native.Nat.{◌-◌}
use mathlib.Core.Path.{◌≡◌}
use lib.ListN.{length}
use Rattle.segment.specs.Kinds.{kind_size}
use Rattle.scanning.specs.SeeingLaws.{Skipped}
use Rattle.scanning.proofs.newest.skip_others.Given as goal

abbrev pub invariant-loop-at : goal.invariant-loop-at
invariant-loop-at l = Skipped l.edition l.part l.key l.start l.at × (l.length ≡ kind_size l.edition l.last)

abbrev pub decreases-loop-at : goal.decreases-loop-at
decreases-loop-at l = length l.part - l.at
