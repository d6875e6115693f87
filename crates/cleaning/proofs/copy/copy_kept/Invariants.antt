-- `cleaning::copy::copy_kept` meets its contract. The invariant: what is chosen of the slots so far is copied.
use Rattle.cleaning.specs.Chosen.{chosen_below}
use Rattle.segment.specs.Copied.{Copied}
use Rattle.cleaning.proofs.copy.copy_kept.Given as goal

abbrev pub invariant-loop-i : goal.invariant-loop-i
invariant-loop-i l = Copied (chosen_below l.into l.area l.chosen l.split l.i) l.initial.work l.from l.work l.to
