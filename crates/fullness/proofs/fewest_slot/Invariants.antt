-- `fullness::fewest_slot` meets its contract. The invariant: of the slots gone through, the one held is the lowest with the fewest.
use Rattle.fullness.specs.FewestLaws.{Held}
use Rattle.fullness.proofs.fewest_slot.Given as goal

abbrev pub invariant-loop-i : goal.invariant-loop-i
invariant-loop-i l = Held l.slots l.map l.counts l.i l.held
