-- `recovery::recover::look_through` meets its contract: a law for each return, at the tests that led there.
use mathlib.Core.Path.{◌≡◌, sym, ◌∙◌, ap}
use Rattle.segment.specs.Digest.{layout_in}
use Rattle.model.specs.Log.{segment_of, views_of}
use Rattle.drive_log.specs.Shape.{inside}
use Rattle.recovery.proofs.CheckLaws.{head-below, head-mixed, head-damaged, head-shared, head-sound}
use Rattle.drive_log.specs.Surveys.{is_sound, highest_in, apart_in}
use Rattle.recovery.proofs.recover.look_through.Goals as goal
use Rattle.recovery.proofs.recover.look_through.Goals.{After-edition_of-edition}

-- the edition is the head's
own : (c : After-edition_of-edition)
    → let a = c.args in c.edition_of-edition.result ≡ layout_in (segment_of a.area.now a.s a.slot)
own c = c.edition_of-edition.ensures ∙ ap layout_in c.cut.ensures

pub cut-requires : goal.cut-requires
cut-requires c =
    let a = c.args in
    inside c.requires.0 a.slot
    (head-below (views_of a.area.now a.s) a.n (record { slot = a.slot; digest = a.digest }) c.requires.1)

pub returns-then-editions_bad : goal.returns-then-editions_bad
returns-then-editions_bad c =
    head-mixed c.args.single _ _ _ c.requires.1 _ (own (goal.at.returns-then-editions_bad c).After-edition_of-edition) (sym c.editions_bad.ensures ∙ c.if-editions_bad.true)

pub returns-in_default : goal.returns-in_default
unfolding is_sound
returns-in_default c =
    head-damaged c.args.single _ _ _ c.requires.1 _ (own (goal.at.returns-in_default c).After-edition_of-edition) (sym c.editions_bad.ensures ∙ c.if-editions_bad.false)
    (c.survey.ensures.damage (ap is_sound c.in_default.is))

pub version_shared-requires : goal.version_shared-requires
unfolding is_sound highest_in apart_in
version_shared-requires c =
    let s = c.survey.ensures in let e = ap is_sound c.in-Some.is in
    record {
      shape = c.requires.0;
      n_value = s.undamaged e;
      n_value_2 = λ a. s.unshared e (ap apart_in c.in-Some.is ∙ a);
    }

pub returns-then-version_shared : goal.returns-then-version_shared
unfolding is_sound
returns-then-version_shared c =
    head-shared c.args.single _ _ _ c.requires.1 _ (own (goal.at.returns-then-version_shared c).After-edition_of-edition) (sym c.editions_bad.ensures ∙ c.if-editions_bad.false)
    (c.survey.ensures.undamaged (ap is_sound c.in-Some.is)) (sym c.version_shared.ensures ∙ c.if-version_shared.true)

pub returns : goal.returns
unfolding is_sound highest_in
returns c =
    let e = ap is_sound c.in-Some.is in
    head-sound c.args.single _ _ _ c.requires.1 _ (own (goal.at.returns c).After-edition_of-edition) (sym c.editions_bad.ensures ∙ c.if-editions_bad.false)
    (c.survey.ensures.undamaged e) _
    (λ i. record { 0 = (sym (ap highest_in c.in-Some.is) ∙ c.survey.ensures.highest-is e) i }) (sym c.version_shared.ensures ∙ c.if-version_shared.false)
