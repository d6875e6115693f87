-- `cleaning::noted::note_slot` meets its contract.
use mathlib.Core.Path.{◌∙◌}
use Rattle.segment.specs.Choice.{pick}
use Rattle.cleaning.proofs.Walks.{walk-whole}
use Rattle.cleaning.specs.Filter.{note_entry}
use Rattle.cleaning.proofs.noted.note_slot.Goals as goal

pub returns-in-First : goal.returns-in-First
unfolding pick
returns-in-First c =
    let a = c.args in
    rw c.in-First.is (c.note_as.ensures ∙ walk-whole _ note_entry a.area.now a.split.size a.filter.now a.slot _ c.cut-s.ensures)

pub returns-in-Second : goal.returns-in-Second
unfolding pick
returns-in-Second c =
    let a = c.args in
    rw c.in-Second.is (c.note_as-in-Second.ensures ∙ walk-whole _ note_entry a.area.now a.split.size a.filter.now a.slot _ c.cut-s.ensures)
