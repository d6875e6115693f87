-- `noted` meets its contract.
use Rattle.play.specs.Answers.{bad-agrees, bad-first, bad-before}
use Rattle.play.proofs.operations.noted.Goals as goal

pub returns-then-agrees : goal.returns-then-agrees
returns-then-agrees c = bad-agrees _ _ _ c.if-agrees.true

pub returns-then-bad-eq0 : goal.returns-then-bad-eq0
returns-then-bad-eq0 c = bad-first _ _ _ c.if-agrees.false c.if-bad-eq0.true

pub returns : goal.returns
returns c = bad-before _ _ _ c.if-agrees.false c.if-bad-eq0.false
