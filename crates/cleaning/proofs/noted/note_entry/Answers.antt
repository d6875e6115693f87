-- `cleaning::noted::note_entry` meets its contract.
use borrow.Author.Tests.{not-true, not-false}
use Rattle.cleaning.proofs.FilterLaws.{object-passed, tombstone-noted}
use Rattle.cleaning.proofs.noted.note_entry.Goals as goal

pub returns-then-not-header : goal.returns-then-not-header
returns-then-not-header c = object-passed _ _ (not-true _ c.if-not-header.true)

pub returns : goal.returns
returns c = tombstone-noted _ _ (not-false _ c.if-not-header.false) c.put.ensures
