-- `joining::weights::behind` meets its contract.
use Prim.Native.Nat.{◌-◌}
use lib.ListN.{length}
use Rattle.joining.specs.Weights.{Passed}
use Rattle.joining.proofs.weights.behind.Given as goal

abbrev pub invariant-loop-header : goal.invariant-loop-header
invariant-loop-header l = Passed l.edition l.s l.from l.at

abbrev pub decreases-loop-header : goal.decreases-loop-header
decreases-loop-header l = length l.s - l.at
