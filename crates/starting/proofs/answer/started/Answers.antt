-- `starting::answer::started` meets its contract.
use Rattle.starting.proofs.answer.started.Goals as goal

pub returns : goal.returns
returns c = rw c.with_pending.ensures
