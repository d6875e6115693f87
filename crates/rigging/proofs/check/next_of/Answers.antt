-- `rigging::check::next_of` meets its contract.
use native.Mathlib.Omega.{arith}
use mathlib.Core.Path.{ap}
use Rattle.drive_log.specs.Surveys.{is_sound, highest_in, apart_in}
use Rattle.rig_model.proofs.CheckLaws.{next-record, next-log, next-damaged, shape, area-long}
use Rattle.rigging.proofs.check.next_of.Goals as goal

pub returns-then-not-faulty : goal.returns-then-not-faulty
returns-then-not-faulty c = rw c.if-not-faulty.true (next-record c.args.area.now c.args.rec c.requires.0)

pub survey-requires : goal.survey-requires
survey-requires c = shape c.args.area.now (area-long c.args.area.now c.args.rec c.requires.1 c.requires.0)

pub returns-in_default : goal.returns-in_default
unfolding is_sound
returns-in_default c =
    let p = c.survey.result in
    rw c.if-not-faulty.false
    (next-damaged c.args.area.now c.args.rec c.requires.0 (is_sound p) (highest_in p) (apart_in p) c.survey.ensures _ (ap is_sound c.in_default.is))

pub returns : goal.returns
unfolding highest_in
returns c =
    let p = c.survey.result in
    rw c.if-not-faulty.false
    (next-log c.args.area.now c.args.rec c.requires.0 (is_sound p) (highest_in p) (apart_in p) c.survey.ensures _ (omega (arith, ap highest_in c.in-Some.is)))
