-- `book_at` meets its contract.
use Rattle.std.proofs.Common.{sym, eq-eqb, ne_eqb}
use Rattle.segment.proofs.Choice.{pick_true, pick-false}
use Rattle.play.proofs.operations.book_at.Goals as goal

pub returns-then-left-eq0 : goal.returns-then-left-eq0
returns-then-left-eq0 c = sym (pick_true _ _ _ (eq-eqb _ 0 c.if-left-eq0.true))

pub returns : goal.returns
returns c = sym (pick-false _ _ _ (ne_eqb _ 0 c.if-left-eq0.false))
