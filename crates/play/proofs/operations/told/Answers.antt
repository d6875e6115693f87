-- `told` meets its contract.
use Rattle.std.specs.Prelude.{Ok}
use mathlib.Core.Path.{◌∙◌, ap}
use Rattle.record.specs.Answered.{StepAnswer}
use Rattle.record.specs.declared.Progress.{Progress}
use Rattle.play.specs.Answers.{left-says, left-differs, done-says, done-differs}
use Rattle.play.proofs.operations.told.Goals as goal

-- an accepted step's answer
abbrev told_as : Progress → StepAnswer
told_as p = Ok p

pub returns-then-n-left : goal.returns-then-n-left
returns-then-n-left c = left-says _ _ _ _ (c.in-Ok.is ∙ ap told_as c.in-Left.is) c.if-n-left.true

pub returns-else-n-left : goal.returns-else-n-left
returns-else-n-left c = left-differs _ _ _ _ (c.in-Ok.is ∙ ap told_as c.in-Left.is) c.if-n-left.false

pub returns-then-v-version : goal.returns-then-v-version
returns-then-v-version c = done-says _ _ _ _ (c.in-Ok.is ∙ ap told_as c.in-Done.is) c.if-v-version.true

pub returns-else-v-version : goal.returns-else-v-version
returns-else-v-version c = done-differs _ _ _ _ (c.in-Ok.is ∙ ap told_as c.in-Done.is) c.if-v-version.false
