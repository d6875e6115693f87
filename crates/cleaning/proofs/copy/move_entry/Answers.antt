-- `cleaning::copy::move_entry` meets its contract.
use mathlib.Core.Path.{sym, ◌∙◌}
use lib.ListN.{length}
use Rattle.segment.proofs.Copied.{copied-as, copied-part, part_room}
use Rattle.cleaning.specs.Kept.{moved_bytes}
use Rattle.cleaning.proofs.KeptLaws.{moved_same, moved_other, moved-room}
use Rattle.cleaning.proofs.copy.move_entry.Goals as goal

pub put_entry-requires-clause-from_in_bounds : goal.put_entry-requires-clause-from_in_bounds
put_entry-requires-clause-from_in_bounds c =
    let a = c.args in
    moved-room a.into a.area.now a.edition a.header a.place c.requires.edition_bound c.requires.length_in_bounds a.to (length a.work.now) c.requires.place_in_bounds

pub returns-then-not-same_edition : goal.returns-then-not-same_edition
returns-then-not-same_edition c =
    copied-as (sym (moved_other _ _ _ _ _ (sym c.same_edition.ensures ∙ c.if-not-same_edition.true))) c.put_entry.ensures

pub copy_into-requires : goal.copy_into-requires
copy_into-requires c =
    let a = c.args in
    part_room a.area.now a.to a.place a.header.length (length a.work.now)
    (moved_bytes a.into a.area.now a.edition a.header a.place)
    (moved_same a.into a.area.now a.edition a.header a.place (sym c.same_edition.ensures ∙ c.if-not-same_edition.false))
    c.requires.place_in_bounds

pub returns : goal.returns
returns c =
    copied-part _ _ _ _ _ _ _ c.requires.length_in_bounds
    (moved_same _ _ _ c.args.header _ (sym c.same_edition.ensures ∙ c.if-not-same_edition.false))
    c.copy_into.ensures
