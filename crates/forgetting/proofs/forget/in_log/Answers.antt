-- `forgetting::forget::in_log` meets its contract.
use Rattle.forgetting.proofs.DeleteLaws.{in-log-above, in-log-named}
use Rattle.forgetting.proofs.forget.in_log.Goals as goal

pub returns-then-rec-slot : goal.returns-then-rec-slot
returns-then-rec-slot c = in-log-above _ _ c.if-rec-slot.true

pub returns : goal.returns
returns c = in-log-named _ _ c.if-rec-slot.false c.is_named.ensures
