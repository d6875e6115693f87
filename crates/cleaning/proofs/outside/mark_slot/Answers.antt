use mathlib.Core.Path.{◌≡◌, refl, ◌∙◌, ap}
use native.Mathlib.Omega.{arith}
use lib.ListN.{length}
use Rattle.cleaning.proofs.Walks.{walk-stop, walk-entry, walk-whole}
use Rattle.cleaning.specs.Filter.{sift_entry}
use Rattle.cleaning.proofs.FilterLaws.{length-sift}
use Rattle.cleaning.specs.EntriesLaws.{Meets}
use Rattle.cleaning.proofs.EntriesLaws.{meets, stops_end, stops-damage, slot-long}
use Rattle.cleaning.proofs.outside.mark_slot.Goals as goal
use Rattle.cleaning.proofs.outside.mark_slot.Goals.{After-cut-s, In-Entry}

-- the slot's part of the area is S bytes long
long : (c : After-cut-s) → length c.cut-s.result.now ≡ c.args.split.size
long c = slot-long c.requires.split_fits.0.slots _ c.requires.slot_lt_slots _ c.cut-s.ensures

-- the entry that the turn meets
met : (c : In-Entry)
    → Meets c.args.edition c.cut-s.result.now c.loop-header.at c.in-Entry.header
met c = meets _ _ _ _ c.next.ensures _ c.in-Entry.is

pub overflow_add-at : goal.overflow_add-at
overflow_add-at c =
    omega (arith, met (goal.at.overflow_add-at c).In-Entry, long (goal.at.overflow_add-at c).After-cut-s, c.requires.split_fits.0.slots.size-high)

pub loop-header-smaller : goal.loop-header-smaller
loop-header-smaller c = omega (arith, met (goal.at.loop-header-smaller c).In-Entry)

pub loop-header-preserved : goal.loop-header-preserved
loop-header-preserved c =
    let made = c.sift_entry.ensures in (
      walk-entry _ (sift_entry _ _ _) _ _ _ _ c.loop-header.invariant.0 (met (goal.at.loop-header-preserved c).In-Entry) _ made _ refl,
      ap length made ∙ length-sift _ _ _ _ _ _ c.loop-header.invariant.1,
    )

pub returns-in-End : goal.returns-in-End
returns-in-End c =
    let a = c.args in
    walk-stop _ (sift_entry _ _ _) _ _ _ _ c.loop-header.invariant.0 (stops_end _ _ _ _ c.next.ensures c.in-End.is)
    ∙ walk-whole _ (sift_entry a.area.now a.cells.now a.filter.now) a.area.now a.split.size a.marks.now a.slot _ c.cut-s.ensures

pub returns-in-Damage : goal.returns-in-Damage
returns-in-Damage c =
    let a = c.args in
    walk-stop _ (sift_entry _ _ _) _ _ _ _ c.loop-header.invariant.0 (stops-damage _ _ _ _ c.next.ensures c.in-Damage.is)
    ∙ walk-whole _ (sift_entry a.area.now a.cells.now a.filter.now) a.area.now a.split.size a.marks.now a.slot _ c.cut-s.ensures
