-- `forgetting::forget::forget_live` meets its contract.
use mathlib.Core.Path.{◌≡◌, sym, ◌∙◌, ap}
use Rattle.segment.specs.Digest.{layout_in}
use Rattle.cleaning.specs.Entries.{slot_layout}
use Rattle.cleaning.proofs.EntriesLaws.{slot-lies}
use Rattle.writing.specs.TestLaws.{full-fits, full-number}
use Rattle.forgetting.proofs.DeleteLaws.{victim-fits, victim-below, live-begun, live-refused}
use Rattle.forgetting.proofs.forget.forget_live.Goals as goal
use Rattle.forgetting.proofs.forget.forget_live.Goals.{After-edition_of-edition}

pub cut-requires : goal.cut-requires
cut-requires c = let v = c.requires in slot-lies (victim-fits v).slots _ (victim-below v)

-- the edition is the slot's own
own : (c : After-edition_of-edition)
    → let a = c.args in
    c.edition_of-edition.result ≡ slot_layout a.area.now a.split.size a.slot
own c = c.edition_of-edition.ensures ∙ ap layout_in c.cut.ensures

pub fits_segment-fits-requires : goal.fits_segment-fits-requires
fits_segment-fits-requires c =
    let v = c.requires in
    record {
      split_fits = victim-fits v;
      slot_lt_slots = victim-below v;
    }

pub begin-requires : goal.begin-requires
begin-requires c =
    let passed = sym c.in-Ok.is ∙ c.check_full.ensures in
    record {
      victim_ready = c.requires;
      number_left = full-number c.args.rec c.fits_segment-fits.result passed;
      slot_value = sym c.fits_segment-fits.ensures ∙ full-fits c.args.rec _ passed;
    }

pub returns-in-Err : goal.returns-in-Err
returns-in-Err c =
    live-refused c.requires _ _ _ (own (goal.at.returns-in-Err c).After-edition_of-edition) c.new_edition-into.ensures
    c.fits_segment-fits.ensures _ (sym c.in-Err.is ∙ c.check_full.ensures) _ c.refused.ensures

pub returns-in-Ok : goal.returns-in-Ok
returns-in-Ok c =
    live-begun c.requires _ _ _ (own (goal.at.returns-in-Ok c).After-edition_of-edition) c.new_edition-into.ensures
    c.fits_segment-fits.ensures (sym c.in-Ok.is ∙ c.check_full.ensures) c.begin.ensures
