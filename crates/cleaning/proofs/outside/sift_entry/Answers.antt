-- `cleaning::outside::sift_entry` meets its contract.
use mathlib.Core.Path.{sym, ◌∙◌}
use Rattle.cleaning.proofs.FilterLaws.{sift-dead, sift-passed, sift-marks}
use Rattle.cleaning.proofs.outside.sift_entry.Goals as goal

pub returns-then-header : goal.returns-then-header
returns-then-header c = sift-dead _ _ _ _ _ c.if-header.true

pub returns-then-not-has : goal.returns-then-not-has
returns-then-not-has c = sift-passed _ _ _ _ _ c.if-header.false (sym c.has.ensures ∙ c.if-not-has.true)

pub returns : goal.returns
returns c =
    sift-marks _ _ _ _ _ c.if-header.false (sym c.has.ensures ∙ c.if-not-has.false)
    c.mark_key.ensures
