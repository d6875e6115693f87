-- `recovery::read::read` meets its contract.
use Rattle.recovery.proofs.LookupLaws.{read-promise}
use Rattle.recovery.proofs.read.read.Goals as goal

pub returns : goal.returns
returns c = read-promise _ _ _ _ _ _ _ _ c.find.ensures c.told-answer.ensures
