-- `forgetting::room::tombstone_length` meets its contract.
use mathlib.Core.Path.{◌∙◌}
use Rattle.forgetting.proofs.ForgotLaws.{length_none, length-dead}
use Rattle.forgetting.proofs.room.tombstone_length.Goals as goal

pub returns-then-not-live : goal.returns-then-not-live
returns-then-not-live c = length_none _ _ c.if-not-live.true

pub returns : goal.returns
returns c = c.head_size.ensures ∙ length-dead _ _ c.if-not-live.false
