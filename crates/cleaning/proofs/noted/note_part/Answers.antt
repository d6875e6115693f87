-- `cleaning::noted::note_part` meets its contract.
use mathlib.Core.Path.{sym, ◌∙◌, ap}
use Rattle.segment.specs.Digest.{layout_in}
use Rattle.cleaning.proofs.Walks.{walk-named, walk-other}
use Rattle.cleaning.specs.Filter.{note_entry}
use Rattle.cleaning.proofs.noted.note_part.Goals as goal

pub returns-then-not-is_named : goal.returns-then-not-is_named
returns-then-not-is_named c = walk-other note_entry _ _ _ _ _ (sym c.is_named.ensures ∙ c.if-not-is_named.true)

pub returns : goal.returns
returns c =
    walk-named note_entry _ _ _ _ _ _ (c.edition_of-edition.ensures ∙ ap layout_in c.cut.ensures)
    (sym c.is_named.ensures ∙ c.if-not-is_named.false) c.note_slot.ensures
