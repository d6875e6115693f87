-- `joining::weights::weigh_all` meets its contract.
use Rattle.joining.specs.Weights.{Rows}
use Rattle.joining.proofs.weights.weigh_all.Given as goal

abbrev pub invariant-loop-i : goal.invariant-loop-i
invariant-loop-i l = Rows l.into l.area l.cells l.notes l.split l.i l.totals l.shares
