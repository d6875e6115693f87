use mathlib.Core.Path.{◌∙◌}
use native.Mathlib.Omega.{arith}
use Rattle.drive_log.specs.Tables.{one-pick, one-few, occupied-turn, occupied-end}
use Rattle.drive_log.proofs.table.occupied.Goals as goal

pub loop-cell-preserved : goal.loop-cell-preserved
loop-cell-preserved c = (
  omega (arith, one-few _ _ (c.from-count.ensures ∙ one-pick _)),
  occupied-turn _ _ _ _ c.loop-cell-test.true c.loop-cell.invariant.1 (c.from-count.ensures ∙ one-pick _),
)

pub returns : goal.returns
returns c = occupied-end _ _ _ c.loop-cell-test.false c.loop-cell.invariant.1
