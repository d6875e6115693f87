use Prim.Native.Nat.{◌+◌, ◌*◌, ◌<◌}
use mathlib.Core.Path.{◌≡◌, refl}
use native.Mathlib.Omega.{arith}
use lib.ListN.{length}
use Rattle.cleaning.specs.Chosen.{chosen_entry}
use Rattle.cleaning.specs.EntriesLaws.{Meets}
use Rattle.cleaning.proofs.EntriesLaws.{meets, meets-long, stops_end, stops-damage, tombstone-length, slot-long, entry-lies, place_short}
use Rattle.cleaning.specs.ChosenLaws.{chosen_from, chosen-stop, chosen-entry}
use Rattle.segment.proofs.Copied.{copying-room, copying-next, copying-end}
use Rattle.cleaning.proofs.copy.copy_slot.Goals as goal
use Rattle.cleaning.proofs.copy.copy_slot.Goals.{After-cut-s, In-Entry}

-- the slot's part of the area is S bytes long
long : (c : After-cut-s) → length c.cut-s.result.now ≡ c.args.split.size
long c = slot-long c.requires.chosen_fits.slots _ c.requires.slot_lt_slots _ c.cut-s.ensures

-- the entry that the turn meets, and its place
met : (c : In-Entry)
    → Meets c.args.edition c.cut-s.result.now c.loop-header.at c.in-Entry.header
met c = meets _ _ _ _ c.next.ensures _ c.in-Entry.is

place : (c : In-Entry)
    → let a = c.args in
    a.slot * a.split.size + c.loop-header.at < 65536
place c =
    place_short c.requires.chosen_fits.slots _ c.requires.slot_lt_slots _ c.cut-s.ensures _ _ (met c).fits (met c).some_byte

pub overflow_add-slot : goal.overflow_add-slot
overflow_add-slot c = omega (arith, place c)

pub copy_chosen-to-requires-clause-length_in_bounds : goal.copy_chosen-to-requires-clause-length_in_bounds
copy_chosen-to-requires-clause-length_in_bounds c =
    entry-lies c.requires.chosen_fits.slots _ c.requires.slot_lt_slots _ c.cut-s.ensures _ _ (met (goal.at.copy_chosen-to-requires-clause-length_in_bounds c).In-Entry).fits

pub copy_chosen-to-requires-clause-edition_bound : goal.copy_chosen-to-requires-clause-edition_bound
copy_chosen-to-requires-clause-edition_bound c =
    meets-long _ _ _ (met (goal.at.copy_chosen-to-requires-clause-edition_bound c).In-Entry)

pub copy_chosen-to-requires-clause-place_in_bounds : goal.copy_chosen-to-requires-clause-place_in_bounds
copy_chosen-to-requires-clause-place_in_bounds c =
    let a = c.args in
    let at = c.loop-header.at in
    let h = c.in-Entry.header in
    copying-room c.loop-header.invariant c.requires.slot_in_bounds
    (chosen_entry a.into a.area.now a.chosen.now a.edition h (a.slot * a.split.size + at))
    (chosen_from a.edition a.into a.area.now a.chosen.now a.split.size a.slot c.cut-s.result.now (at + h.length))
    (chosen-entry _ _ _ _ _ _ _ _ (met (goal.at.copy_chosen-to-requires-clause-place_in_bounds c).In-Entry) (at + h.length) refl)

pub behind-at-requires : goal.behind-at-requires
behind-at-requires c =
    record {
      length_bound = omega (arith, met (goal.at.behind-at-requires c).In-Entry, long (goal.at.behind-at-requires c).After-cut-s, c.requires.chosen_fits.slots.size-high);
      length_value = tombstone-length _ _ _ (met (goal.at.behind-at-requires c).In-Entry);
    }

pub loop-header-smaller : goal.loop-header-smaller
loop-header-smaller c = omega (arith, c.behind-at.ensures, met (goal.at.loop-header-smaller c).In-Entry)

pub loop-header-preserved : goal.loop-header-preserved
loop-header-preserved c = copying-next c.loop-header.invariant _ _ _ _ (chosen-entry _ _ _ _ _ _ _ _ (met (goal.at.loop-header-preserved c).In-Entry) _ c.behind-at.ensures) c.copy_chosen-to.ensures

pub returns-in-End : goal.returns-in-End
returns-in-End c = copying-end c.loop-header.invariant (chosen-stop _ _ _ _ _ _ _ _ (stops_end _ _ _ _ c.next.ensures c.in-End.is))

pub returns-in-Damage : goal.returns-in-Damage
returns-in-Damage c = copying-end c.loop-header.invariant (chosen-stop _ _ _ _ _ _ _ _ (stops-damage _ _ _ _ c.next.ensures c.in-Damage.is))
