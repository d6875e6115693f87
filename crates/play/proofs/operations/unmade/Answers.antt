-- `unmade` meets its contract.
use Rattle.std.proofs.Common.{refl, arith}
use Rattle.play.specs.Answers.{none-unmade, some-unmade}
use Rattle.play.proofs.operations.unmade.Goals as goal

pub returns-then-fails-eq0 : goal.returns-then-fails-eq0
returns-then-fails-eq0 c = none-unmade _ _ c.if-fails-eq0.true

pub returns-then-stores-fails : goal.returns-then-stores-fails
returns-then-stores-fails c = some-unmade c.args.stores c.args.fails 0 c.if-fails-eq0.false (omega arith)

pub returns : goal.returns
returns c = some-unmade _ _ _ c.if-fails-eq0.false refl
