-- `record::new_edition` meets its contract: the second edition where the store is switched, else the record's.
use mathlib.Core.Path.{sym}
use Rattle.segment.proofs.Choice.{pick_true, pick-false}
use Rattle.record.proofs.new_edition.Goals as goal

pub returns-then-rec : goal.returns-then-rec
returns-then-rec c = sym (pick_true _ _ _ c.if-rec.true)

pub returns : goal.returns
returns c = sym (pick-false _ _ _ c.if-rec.false)
