-- `forgetting::copy::put_tombstone` meets its contract.
use native.Mathlib.Omega.{arith}
use Rattle.forgetting.proofs.ForgotLaws.{dead-none, dead-put, length-dead}
use Rattle.forgetting.proofs.copy.put_tombstone.Goals as goal

pub returns-then-not-live : goal.returns-then-not-live
returns-then-not-live c = dead-none _ _ _ _ c.if-not-live.true

pub write_head-requires : goal.write_head-requires
write_head-requires c =
    omega (arith, c.requires, length-dead c.args.into c.args.live c.if-not-live.false)

pub overflow_add-result : goal.overflow_add-result
overflow_add-result c =
    omega (arith, c.requires, c.well_formed.1.1.0.1, length-dead c.args.into c.args.live c.if-not-live.false, c.head_size.ensures)

pub returns : goal.returns
returns c =
    rw c.head_size.ensures
    (dead-put _ _ _ _ c.if-not-live.false _ (rw c.tombstone_kind-kind.ensures at c.write_head.ensures))
