use mathlib.Core.Path.{◌∙◌}
use Rattle.drive_log.specs.Marks.{marked_turn}
use Rattle.drive_log.proofs.marks.mark_all.Goals as goal

pub loop-cell-preserved : goal.loop-cell-preserved
loop-cell-preserved c = (
  c.set_mark.auto.marks ∙ c.loop-cell.invariant.0,
  marked_turn _ _ _ _ c.loop-cell.invariant.1 c.set_mark.ensures,
)
