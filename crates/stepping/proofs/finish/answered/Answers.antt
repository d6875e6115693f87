-- `stepping::finish::answered` meets its contract.
use Rattle.stepping.proofs.FinishLaws.{told-keys, told_over, told-many}
use Rattle.stepping.proofs.finish.answered.Goals as goal

pub returns-then-n-rec : goal.returns-then-n-rec
returns-then-n-rec c = told-keys _ _ _ _ c.in-Some.is c.if-n-rec.true c.committed.ensures

pub returns-else-n-rec : goal.returns-else-n-rec
returns-else-n-rec c = told_over _ _ _ _ c.in-Some.is c.if-n-rec.false c.refused.ensures

pub returns-in-None : goal.returns-in-None
returns-in-None c = told-many _ _ _ _ c.in-None.is c.refused-in-None.ensures
