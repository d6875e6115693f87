-- The steps of `steps` leave the work buffer as it was.
use Rattle.std.proofs.Common.{◌≡◌}
use Rattle.play.proofs.operations.steps.Given as goal

abbrev pub invariant-loop-left : goal.invariant-loop-left
invariant-loop-left g l = l.lent.work ≡ l.fn.lent.work
