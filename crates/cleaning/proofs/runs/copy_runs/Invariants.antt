-- `cleaning::runs::copy_runs` meets its contract. The invariant: with what is chosen from here on, the copy is that of the slot.
use Prim.Native.Nat.{◌-◌}
use lib.ListN.{length}
use Rattle.cleaning.specs.Chosen.{chosen_slot}
use Rattle.cleaning.specs.ChosenLaws.{chosen_from}
use Rattle.segment.specs.Copied.{Copying}
use Rattle.cleaning.proofs.runs.copy_runs.Given as goal

abbrev pub invariant-loop-header : goal.invariant-loop-header
invariant-loop-header l =
    Copying (chosen_slot l.edition l.edition l.area l.chosen l.size l.slot) l.initial.work l.from (chosen_from l.edition l.edition l.area l.chosen l.size l.slot l.s l.at) l.work l.to

abbrev pub decreases-loop-header : goal.decreases-loop-header
decreases-loop-header l = length l.s - l.at
