-- `starting::stores::head_stores` meets its contract.
use native.Mathlib.Omega.{arith}
use Rattle.starting.specs.Stores.{stores-most}
use Rattle.starting.proofs.stores.head_stores.Goals as goal

pub overflow_add-result : goal.overflow_add-result
overflow_add-result c = let most = stores-most _ _ _ c.commit_stores.ensures in omega arith
