-- `joining::weights::note_share` meets its contract.
use Rattle.joining.specs.WeightsLaws.{share-none, share-whole, share-unless}
use Rattle.joining.proofs.weights.note_share.Goals as goal

pub returns-then-note-eq0 : goal.returns-then-note-eq0
returns-then-note-eq0 c = share-none _ c.if-note-eq0.true

pub returns-then-note-gt32 : goal.returns-then-note-gt32
returns-then-note-gt32 c = share-whole _ c.if-note-eq0.false c.if-note-gt32.true

pub returns : goal.returns
returns c = share-unless _ c.if-note-eq0.false c.if-note-gt32.false
