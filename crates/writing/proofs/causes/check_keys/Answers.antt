-- `writing::causes::check_keys` meets its contract.
use Rattle.writing.specs.TestLaws.{keys-over, keys-left}
use Rattle.writing.proofs.causes.check_keys.Goals as goal

pub returns-then-rec : goal.returns-then-rec
returns-then-rec c = keys-over _ c.if-rec.true

pub returns : goal.returns
returns c = keys-left _ c.if-rec.false
