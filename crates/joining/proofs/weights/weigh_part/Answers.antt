-- `joining::weights::weigh_part` meets its contract.
use mathlib.Core.Path.{sym, ◌∙◌, ap}
use native.Mathlib.Omega.{arith}
use Rattle.segment.specs.Digest.{layout_in}
use Rattle.cleaning.proofs.EntriesLaws.{slot-lies}
use Rattle.joining.specs.WeightsLaws.{rows-skip, rows_none, rows_more}
use Rattle.joining.proofs.weights.weigh_part.Goals as goal

pub returns-then-not-is_named : goal.returns-then-not-is_named
returns-then-not-is_named c = rows-skip _ _ _ _ _ _ _ _ c.requires.rows (sym c.is_named.ensures ∙ c.if-not-is_named.true)

pub returns-then-tombstones-slot-eq0 : goal.returns-then-tombstones-slot-eq0
returns-then-tombstones-slot-eq0 c =
    let own = sym c.is_named.ensures ∙ c.if-not-is_named.false in
    rows_none _ _ _ _ _ _ _ _ c.requires.rows c.requires.slot_lt_slots own (sym (c.requires.tombstones_counted.tombstones-are _ c.requires.slot_lt_slots own) ∙ c.if-tombstones-slot-eq0.true)

pub cut-requires : goal.cut-requires
cut-requires c = slot-lies c.requires.notes_fit.slots c.args.slot c.requires.slot_lt_slots

pub returns : goal.returns
returns c =
    rows_more _ _ _ _ _ _ _ _ c.requires.rows (omega (arith, c.requires.slot_lt_slots, c.requires.notes_fit.slots.slots-high)) c.requires.slot_lt_slots
    (sym c.is_named.ensures ∙ c.if-not-is_named.false) _ _ _
    (c.edition_of-edition.ensures ∙ ap layout_in c.cut.ensures) c.weigh_slot-total.ensures
