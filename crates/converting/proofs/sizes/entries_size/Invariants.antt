-- `converting::sizes::entries_size` meets its contract. The invariant: what is counted, with what the entries left take, is what all
-- take, and the last length is that of the last kind.
use Prim.Native.Nat.{◌-◌}
use mathlib.Core.Path.{◌≡◌}
use lib.ListN.{length}
use Rattle.segment.specs.Kinds.{kind_size}
use Rattle.converting.specs.SizeLaws.{Counting}
use Rattle.converting.proofs.sizes.entries_size.Given as goal

abbrev pub invariant-loop-at : goal.invariant-loop-at
invariant-loop-at l = Counting l.from l.to l.part l.at l.total × (l.length ≡ kind_size l.from l.last)

abbrev pub decreases-loop-at : goal.decreases-loop-at
decreases-loop-at l = length l.part - l.at
