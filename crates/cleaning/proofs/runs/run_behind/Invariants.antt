-- `cleaning::runs::run_behind` meets its contract. The invariant: all before here is one run.
use Prim.Native.Nat.{◌-◌}
use lib.ListN.{length}
use Rattle.cleaning.specs.Runs.{Run}
use Rattle.cleaning.proofs.runs.run_behind.Given as goal

abbrev pub invariant-loop-header : goal.invariant-loop-header
invariant-loop-header l = Run l.edition l.area l.chosen l.size l.slot l.s l.from l.at

abbrev pub decreases-loop-header : goal.decreases-loop-header
decreases-loop-header l = length l.s - l.at
