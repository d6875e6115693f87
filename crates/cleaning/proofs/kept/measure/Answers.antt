use mathlib.Core.Path.{sym, ap}
use native.Mathlib.Omega.{arith}
use lib.ListN.{length}
use Rattle.cleaning.specs.Kept.{kept_test}
use Rattle.cleaning.proofs.KeptLaws.{below_none, below_length}
use Rattle.cleaning.proofs.ChosenLaws.{choice-none, choice-more}
use Rattle.cleaning.proofs.kept.measure.Goals as goal

pub loop-i-init : goal.loop-i-init
loop-i-init c = (sym (ap length (below_none _ _ _ _ _)), omega arith, choice-none (kept_test _ _ _) _ _ _)

pub loop-i-preserved : goal.loop-i-preserved
loop-i-preserved c =
    let l = c.loop-i in
    let a = c.args in (
      omega (arith, l.invariant.0, c.measure_victim-total.ensures.0, below_length a.into a.area.now a.cells.now a.marks.now a.split l.i),
      omega (arith, l.invariant.1, c.measure_victim-total.ensures.1),
      choice-more (kept_test a.area.now a.cells.now a.marks.now) _ _ _ _ l.invariant.2 c.measure_victim-total.ensures.2,
    )
