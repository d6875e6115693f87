-- `starting::stores::commit_stores` meets its contract.
use Rattle.starting.specs.Stores.{stores-within, stores-full}
use Rattle.starting.proofs.stores.commit_stores.Goals as goal

pub returns-then-offset-count : goal.returns-then-offset-count
returns-then-offset-count c = stores-within _ _ _ c.if-offset-count.true

pub returns-else-offset-count : goal.returns-else-offset-count
returns-else-offset-count c = stores-full _ _ _ c.if-offset-count.false
