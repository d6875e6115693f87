-- `forgetting::room::fits_segment` meets its contract.
use mathlib.Core.Path.{sym, ◌∙◌}
use native.Mathlib.Omega.{arith}
use Rattle.segment.proofs.LayoutLaws.{width-high}
use Rattle.forgetting.proofs.ForgotLaws.{forgot-fits, fits-measured}
use Rattle.forgetting.proofs.room.fits_segment.Goals as goal

pub returns-then-same_edition : goal.returns-then-same_edition
returns-then-same_edition c =
    let a = c.args in
    forgot-fits a.edition a.into a.area.now a.cells.now a.marks.now a.live (sym c.same_edition.ensures ∙ c.if-same_edition.true) a.split c.requires.split_fits.slots a.slot c.requires.slot_lt_slots

pub overflow_add-result : goal.overflow_add-result
overflow_add-result c =
    let a = c.args in
    omega (arith, c.digest_size.ensures, c.measure_slot-length.ensures.1, width-high a.into)

pub returns : goal.returns
returns c =
    let a = c.args in
    fits-measured a.edition a.into a.area.now a.cells.now a.marks.now a.live a.split.size a.slot _ _ c.measure_slot-length.ensures.0 c.digest_size.ensures
