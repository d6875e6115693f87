-- `joining::notes::note_cell` meets its contract.
use Rattle.joining.specs.NotesLaws.{newest-stays, newest-noted}
use Rattle.joining.proofs.notes.note_cell.Goals as goal

pub returns-then-not-is_elsewhere : goal.returns-then-not-is_elsewhere
returns-then-not-is_elsewhere c = newest-stays _ _ _ _ c.is_elsewhere.ensures c.if-not-is_elsewhere.true

pub returns : goal.returns
returns c = newest-noted _ _ _ _ c.is_elsewhere.ensures _ c.if-not-is_elsewhere.false c.note_with.ensures
