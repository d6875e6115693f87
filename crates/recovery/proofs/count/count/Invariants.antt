-- `recovery::count::count` meets its contract.
use Rattle.recovery.proofs.CountLaws.{Counting}
use Rattle.recovery.proofs.count.count.Given as goal

abbrev pub invariant-loop-cell : goal.invariant-loop-cell
invariant-loop-cell l = Counting l.s l.area l.cells l.cell-index l.counts
