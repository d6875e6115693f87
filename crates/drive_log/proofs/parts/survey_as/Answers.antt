use mathlib.Core.Path.{◌∙◌, ap}
use native.Mathlib.Omega.{arith}
use Rattle.segment.proofs.EntriesLaws.{next-end, next-damage}
use Rattle.segment.specs.declared.Version.{Version}
use mathlib.Core.Bool.{not}
use Rattle.std.specs.Prelude.{eqb}
use Rattle.drive_log.specs.Editions.{edition_if}
use Rattle.drive_log.specs.Extents.{Meets, meets}
use Rattle.drive_log.specs.Surveys.{is_sound, highest_in, apart_in, telling-start, telling-turn, telling-end, telling-damage, higher_is}
use Rattle.drive_log.proofs.parts.survey_as.Given as given
use Rattle.drive_log.proofs.parts.survey_as.Goals as goal
use Rattle.drive_log.proofs.parts.survey_as.Goals.{In-Entry}

pub loop-header-init : goal.loop-header-init
loop-header-init g c = rw (c.digest_size-at.ensures, c.edition_if-edition.ensures) (telling-start _ _ _ _ _ c.requires)

-- the entry that the turn passes
met : (g : given.Over) (c : In-Entry g)
    → Meets (edition_if (not (eqb g.row.SECOND 0))) c.args.part.now c.loop-header.at c.in-Entry.header.version.0 c.in-Entry.header.length
met g c = rw (← c.edition_if-edition.ensures) (meets _ _ _ _ c.next.ensures _ c.in-Entry.is)

pub overflow_add-at : goal.overflow_add-at
overflow_add-at g c = omega (arith, met g (goal.at.overflow_add-at g c).In-Entry)

pub loop-header-smaller : goal.loop-header-smaller
loop-header-smaller g c = omega (arith, met g (goal.at.loop-header-smaller g c).In-Entry)

pub loop-header-preserved : goal.loop-header-preserved
loop-header-preserved g c =
    telling-turn _ _ _ _ _ _ _ _ _ c.loop-header.invariant (met g (goal.at.loop-header-preserved g c).In-Entry) _ (ap (λ (w : Version). w.0) c.max-highest.ensures ∙ higher_is _ _) _ _ c.mark_apart-apart.ensures

pub returns-in-End : goal.returns-in-End
unfolding is_sound highest_in apart_in
returns-in-End g c = telling-end _ _ _ _ _ _ _ _ _ c.loop-header.invariant (rw (← c.edition_if-edition.ensures) (next-end _ _ _ _ c.next.ensures c.in-End.is))

pub returns-in-Damage : goal.returns-in-Damage
unfolding is_sound highest_in apart_in
returns-in-Damage g c = telling-damage _ _ _ _ _ _ _ _ _ c.loop-header.invariant (rw (← c.edition_if-edition.ensures) (next-damage _ _ _ _ c.next.ensures c.in-Damage.is))
