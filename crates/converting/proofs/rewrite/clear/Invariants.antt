-- `converting::rewrite::clear` meets its contract. The invariant: with 0 from here on, all are 0.
use Rattle.converting.specs.RewriteLaws.{Clearing}
use Rattle.converting.proofs.rewrite.clear.Given as goal

abbrev pub invariant-loop-at : goal.invariant-loop-at
invariant-loop-at l = Clearing l.start l.stop l.initial.target l.target l.at
