use mathlib.Core.Path.{◌≡◌, refl, sym, ◌∙◌}
use native.Mathlib.Omega.{arith}
use Rattle.std.specs.Prelude.{None}
use borrow.Author.Rules.{rules}
use Rattle.drive_log.specs.Surveys.{is_sound, highest_in, apart_in, survey-none, survey-skip, passed-take, survey-end, none-damaged}
use Rattle.drive_log.proofs.survey.survey.Goals as goal

pub loop-slot-init : goal.loop-slot-init
loop-slot-init c = survey-none _ _ _ refl

pub loop-slot-preserved-then-not-is_named : goal.loop-slot-preserved-then-not-is_named
loop-slot-preserved-then-not-is_named c =
    survey-skip _ _ _ _ _ _ _ c.loop-slot.invariant (sym c.is_named.ensures ∙ c.if-not-is_named.true)

pub returns-in_err-passed : goal.returns-in_err-passed
unfolding is_sound highest_in apart_in
returns-in_err-passed c =
    let e : c.from_residual.result ≡ None = search rules in
    rw e
    (none-damaged _ _ _ _ c.loop-slot-test.true (sym c.is_named.ensures ∙ c.if-not-is_named.false) _ _
    c.survey_slot.ensures c.in_err-passed.was)

pub loop-slot-preserved : goal.loop-slot-preserved
loop-slot-preserved c = passed-take _ _ _ _ _ _ _ c.loop-slot.invariant _ _ c.survey_slot.ensures _ c.in_ok-passed.was

pub returns : goal.returns
unfolding is_sound highest_in apart_in
returns c =
    let e : c.loop-slot.slot ≡ c.args.n = omega arith in
    rw (← e) (survey-end _ _ _ _ _ _ _ c.loop-slot.invariant)
