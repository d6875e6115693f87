-- `answer_is` meets its contract.
use Rattle.play.specs.Answers.{present-says, present-differs, absent-says, absent-differs}
use Rattle.play.proofs.reads.answer_is.Goals as goal

pub returns-then-present-has : goal.returns-then-present-has
returns-then-present-has c = present-says _ _ _ _ c.in-Ok.is c.if-present-has.true _ c.object_kind.ensures

pub returns-else-present-has : goal.returns-else-present-has
returns-else-present-has c = present-differs _ _ _ _ c.in-Ok.is c.if-present-has.false

pub returns-then-has-eq0 : goal.returns-then-has-eq0
returns-then-has-eq0 c = absent-says _ _ _ c.in-Err.is c.if-has-eq0.true _ c.number.ensures

pub returns-else-has-eq0 : goal.returns-else-has-eq0
returns-else-has-eq0 c = absent-differs _ _ _ c.in-Err.is c.if-has-eq0.false
