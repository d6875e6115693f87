-- `forgetting::room::measure_entry` meets its contract.
use mathlib.Core.Path.{sym, ◌∙◌, ap}
use lib.ListN.{length}
use Rattle.cleaning.proofs.KeptLaws.{length-kept, length-dropped}
use Rattle.forgetting.proofs.ForgotLaws.{entry-dead, entry_other}
use Rattle.forgetting.proofs.room.measure_entry.Goals as goal

pub returns-then-place-live : goal.returns-then-place-live
returns-then-place-live c =
    let a = c.args in
    c.tombstone_length.ensures ∙ sym (ap length (entry-dead a.into a.area.now a.cells.now a.marks.now a.live a.edition a.header a.place c.if-place-live.true))

pub returns-then-not-is_kept : goal.returns-then-not-is_kept
returns-then-not-is_kept c =
    let a = c.args in
    length-dropped a.into a.area.now a.cells.now a.marks.now a.edition a.header a.place (sym c.is_kept.ensures ∙ c.if-not-is_kept.true)
    ∙ sym (ap length (entry_other a.into a.area.now a.cells.now a.marks.now a.live a.edition a.header a.place c.if-place-live.false))

pub returns : goal.returns
returns c =
    let a = c.args in
    c.moved_length.ensures
    ∙ length-kept a.into a.area.now a.cells.now a.marks.now a.edition a.header a.place c.requires.edition_bound c.requires.length_in_bounds.0
    (sym c.is_kept.ensures ∙ c.if-not-is_kept.false)
    ∙ sym (ap length (entry_other a.into a.area.now a.cells.now a.marks.now a.live a.edition a.header a.place c.if-place-live.false))
