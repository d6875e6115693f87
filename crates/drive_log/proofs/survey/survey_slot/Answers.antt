-- `drive_log::survey::survey_slot` meets its contract.
use mathlib.Core.Path.{sym}
use Rattle.drive_log.specs.Shape.{own-layout, own-scan}
use Rattle.drive_log.specs.Surveys.{slot-told}
use Rattle.drive_log.proofs.survey.survey_slot.Goals as goal

pub returns : goal.returns
returns c =
    let a = c.args in
    let cut = c.cut-part.ensures in
    let told = c.edition_of.ensures in
    slot-told _ _ _ _ _ (sym (own-layout a.area.now a.s a.slot _ cut _ told)) (sym (own-scan a.area.now a.s a.slot _ cut _ told)) c.requires.slot_value _ _ _ c.requires.told _ _ _ _ c.survey_part.ensures
