use mathlib.Core.Path.{refl, ◌∙◌, ap}
use native.Mathlib.Omega.{arith}
use lib.ListN.{length}
use Rattle.segment.proofs.EntriesLaws.{next-end, next-damage}
use Rattle.model.specs.Log.{is_damaged}
use Rattle.laws.specs.Stores.{length-segment}
use Rattle.drive_log.specs.Shape.{own-scan}
use Rattle.drive_log.specs.Extents.{Meets, meets}
use Rattle.scanning.specs.Seeing.{seen_next}
use Rattle.scanning.specs.SeeingLaws.{see-start, see-turn, see-end, own-seen, seen_read, sound-start, sound-on, no-damage}
use Rattle.scanning.proofs.newest.see_slot.Goals as goal
use Rattle.scanning.proofs.newest.see_slot.Goals.{In-Entry}

pub loop-header-init : goal.loop-header-init
loop-header-init c =
    let a = c.args in
    rw c.digest_size-at.ensures (
      see-start _ _ _ _ _ _,
      sound-start _ _ _ refl
          (ap is_damaged (own-scan a.area.now a.s a.slot _ c.cut-part.ensures _ c.edition_of-edition.ensures)
          ∙ c.requires.slot_value),
    )

-- the entry that the turn passes
met : (c : In-Entry)
    → Meets c.edition_of-edition.result c.cut-part.result.now c.skip_others-at.result c.in-Entry.header.version.0 c.in-Entry.header.length
met c = meets _ _ _ _ c.next.ensures _ c.in-Entry.is

pub overflow_add-start : goal.overflow_add-start
overflow_add-start c =
    let a = c.args in
    let p = c.requires.s_in_bounds in
    omega (
      arith,
      (met c).fits,
      p,
      ap length c.cut-part.ensures,
      length-segment a.area.now a.s a.slot p,
    )

pub overflow_add-at : goal.overflow_add-at
overflow_add-at c = omega (arith, (met (goal.at.overflow_add-at c).In-Entry).fits)

pub loop-header-smaller : goal.loop-header-smaller
loop-header-smaller c = omega (arith, (met (goal.at.loop-header-smaller c).In-Entry).fits, (met (goal.at.loop-header-smaller c).In-Entry).some_byte, c.skip_others-at.ensures.upward)

pub loop-header-preserved : goal.loop-header-preserved
unfolding seen_next
loop-header-preserved c =
    let skipped = c.skip_others-at.ensures in (
      see-turn _ _ _ _ _ _ _ _ (skipped.seen _ _ _ _ c.loop-header.invariant.0) (met (goal.at.loop-header-preserved c).In-Entry) _
          (c.see-seen.ensures ∙ seen_read _ _ _ _ _ _ _ c.next.ensures _ c.in-Entry.is),
      sound-on _ _ _ skipped.sound (met (goal.at.loop-header-preserved c).In-Entry),
    )

pub returns-in-End : goal.returns-in-End
returns-in-End c =
    see-end _ _ _ _ _ _ _ _ (c.skip_others-at.ensures.seen _ _ _ _ c.loop-header.invariant.0) (next-end _ _ _ _ c.next.ensures c.in-End.is) ∙
    own-seen _ _ _ _ _ _ c.cut-part.ensures _ c.edition_of-edition.ensures

pub returns-in-Damage : goal.returns-in-Damage
returns-in-Damage c = absurd (no-damage _ _ _ c.skip_others-at.ensures.sound (next-damage _ _ _ _ c.next.ensures c.in-Damage.is))
