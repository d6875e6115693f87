-- `joining::notes::note_part` meets its contract.
use Prim.Native.Nat.{◌<◌}
use mathlib.Core.Path.{sym, ◌∙◌, ap}
use native.Mathlib.Omega.{arith}
use Rattle.segment.specs.Digest.{layout_in}
use Rattle.cleaning.proofs.EntriesLaws.{slot-lies}
use Rattle.joining.specs.NotesLaws.{part-noted, part-keeps, summed-own, counted_skip, counted-more, tombstones-skip, tombstones-more}
use Rattle.joining.proofs.notes.note_part.Goals as goal

pub returns-then-not-is_named : goal.returns-then-not-is_named
returns-then-not-is_named c =
    let other = sym c.is_named.ensures ∙ c.if-not-is_named.true in
    (part-keeps _ _ _ _ _ other, counted_skip _ _ _ _ _ _ c.requires.objects_counted other, tombstones-skip _ _ _ _ _ c.requires.tombstones_counted other)

pub cut-requires : goal.cut-requires
cut-requires c = slot-lies c.requires.notes_fit.slots c.args.slot c.requires.slot_lt_slots

pub returns : goal.returns
returns c =
    let own = c.edition_of-edition.ensures ∙ ap layout_in c.cut.ensures in
    let w = c.note_slot-sums.ensures in
    let sums = summed-own _ _ _ _ _ _ _ own w.0 in
    let low : c.args.slot < 32 = omega (arith, c.requires.slot_lt_slots, c.requires.notes_fit.slots.slots-high) in (
      part-noted _ _ _ _ _ _ own (sym c.is_named.ensures ∙ c.if-not-is_named.false) w.1,
      counted-more _ _ _ _ _ _ c.requires.objects_counted low _ sums.objects-are (omega (arith, sums.few)),
      tombstones-more _ _ _ _ _ c.requires.tombstones_counted low _ sums.tombstones-are,
    )
