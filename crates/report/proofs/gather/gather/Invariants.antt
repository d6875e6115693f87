-- `report::gather::gather` meets its contract. The invariant: the first n ranks are those of the cells from i on.
use Rattle.report.specs.Gather.{cell_rank}
use Rattle.report.specs.Inserting.{Gathered}
use Rattle.report.proofs.gather.gather.Given as goal

abbrev pub invariant-loop-i : goal.invariant-loop-i
invariant-loop-i l = Gathered (cell_rank l.area) l.index l.ranks l.i l.n
