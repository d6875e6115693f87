use mathlib.Core.Path.{sym}
use native.Mathlib.Omega.{arith}
use lib.ListN.{length}
use Rattle.cleaning.proofs.ChosenLaws.{chosen_none, chosen_more, chosen-room}
use Rattle.segment.specs.Copied.{copied-then}
use Rattle.segment.proofs.Copied.{copied_none, copied-as, copied-long}
use Rattle.cleaning.proofs.copy.copy_kept.Goals as goal

pub loop-i-init : goal.loop-i-init
loop-i-init c = copied_none _ _ _ (chosen_none _ _ _ _)

pub copy_victim-to-requires-clause-slot_in_bounds : goal.copy_victim-to-requires-clause-slot_in_bounds
copy_victim-to-requires-clause-slot_in_bounds c =
    let a = c.args in
    let l = c.loop-i in
    omega (
      arith,
      l.invariant.behind,
      copied-long l.invariant,
      chosen-room _ a.area.now a.chosen.now a.split a.from (length a.work.now) l.i a.split.slots c.loop-i-test.true c.requires.split_in_bounds,
    )

pub loop-i-preserved : goal.loop-i-preserved
loop-i-preserved c = copied-as (sym (chosen_more _ _ _ _ _)) (copied-then c.loop-i.invariant c.copy_victim-to.ensures)
