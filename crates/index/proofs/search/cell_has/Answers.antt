-- `index::search::cell_has` meets its contract.
use Rattle.segment.specs.Layout.{table}
use Rattle.index.proofs.SearchLaws.{key-no-room, key-other-table, key-by-key}
use Rattle.index.proofs.search.cell_has.Goals as goal

pub returns-then-area-place : goal.returns-then-area-place
unfolding table
returns-then-area-place c = key-no-room _ _ _ c.if-area-place.true

pub returns-then-key-read16 : goal.returns-then-key-read16
returns-then-key-read16 c = key-other-table _ _ _ _ c.read16.ensures c.if-key-read16.true

pub returns : goal.returns
unfolding table
returns c =
    key-by-key _ _ _ c.if-area-place.false _ c.read16.ensures c.if-key-read16.false _ c.read32.ensures
