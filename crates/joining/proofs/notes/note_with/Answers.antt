-- `joining::notes::note_with` meets its contract.
use Rattle.joining.specs.NotesLaws.{note-first, note-again, note-several}
use Rattle.joining.proofs.notes.note_with.Goals as goal

pub returns-then-note-eq0 : goal.returns-then-note-eq0
returns-then-note-eq0 c = note-first _ _ c.if-note-eq0.true

pub returns-then-note-own : goal.returns-then-note-own
returns-then-note-own c = note-again _ _ c.if-note-eq0.false c.if-note-own.true

pub returns : goal.returns
returns c = note-several _ _ c.if-note-eq0.false c.if-note-own.false
