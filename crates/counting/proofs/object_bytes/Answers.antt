-- `counting::object_bytes` meets its contract.
use mathlib.Core.Path.{sym}
use Rattle.segment.proofs.Choice.{pick_true, pick-false}
use Rattle.counting.proofs.object_bytes.Goals as goal

pub returns-then-header : goal.returns-then-header
returns-then-header c = sym (pick_true _ _ _ c.if-header.true)

pub returns : goal.returns
returns c = sym (pick-false _ _ _ c.if-header.false)
