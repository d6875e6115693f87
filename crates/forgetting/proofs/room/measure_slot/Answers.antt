use Prim.Native.Nat.{◌+◌, ◌*◌, ◌≤◌, ◌<◌}
use mathlib.Core.Path.{◌≡◌, refl}
use native.Mathlib.Omega.{arith}
use lib.ListN.{length}
use Rattle.segment.specs.Layout.{entry_size}
use Rattle.segment.proofs.LayoutLaws.{width-high}
use Rattle.cleaning.specs.EntriesLaws.{Meets}
use Rattle.cleaning.proofs.EntriesLaws.{meets, meets-long, stops_end, stops-damage, area-short, slot-lies, slot-long, entry-lies, place_short}
use Rattle.cleaning.specs.KeptLaws.{measured-stop, measured-entry}
use Rattle.forgetting.specs.Forgot.{forgot_entry}
use Rattle.forgetting.proofs.ForgotLaws.{forgot-measured, forgot-long}
use Rattle.forgetting.proofs.room.measure_slot.Goals as goal
use Rattle.forgetting.proofs.room.measure_slot.Goals.{After-cut-s, After-measure_entry-total, In-Entry}

-- the slot's part of the area is S bytes long
long : (c : After-cut-s) → length c.cut-s.result.now ≡ c.args.split.size
long c = slot-long c.requires.split_fits.slots _ c.requires.slot_lt_slots _ c.cut-s.ensures

-- the entry that the turn meets, with a head at least, and its place
met : (c : In-Entry)
    → Meets c.args.edition c.cut-s.result.now c.loop-header.at c.in-Entry.header
met c = meets _ _ _ _ c.next.ensures _ c.in-Entry.is

low : (c : In-Entry) → entry_size c.args.edition 0 ≤ c.in-Entry.header.length
low c = meets-long _ _ _ (met c)

place : (c : In-Entry)
    → let a = c.args in
    a.slot * a.split.size + c.loop-header.at < 65536
place c =
    place_short c.requires.split_fits.slots _ c.requires.slot_lt_slots _ c.cut-s.ensures _ _ (met c).fits (met c).some_byte

lies : (c : In-Entry)
    → let a = c.args in
    a.slot * a.split.size + c.loop-header.at + c.in-Entry.header.length ≤ length a.area.now
lies c =
    entry-lies c.requires.split_fits.slots _ c.requires.slot_lt_slots _ c.cut-s.ensures _ _ (met c).fits

short : (c : After-measure_entry-total) → c.measure_entry-total.result ≤ 2 * c.in-Entry.header.length
short c =
    let a = c.args in
    omega (
      arith,
      c.measure_entry-total.ensures,
      forgot-long a.into a.area.now a.cells.now a.marks.now a.live a.edition c.in-Entry.header
          (a.slot * a.split.size + c.loop-header.at) ((meets-long _ _ _ ((meets _ _ _ _ c.next.ensures _ c.in-Entry.is)))) ((entry-lies c.requires.split_fits.slots _ c.requires.slot_lt_slots _ c.cut-s.ensures _ _ ((meets _ _ _ _ c.next.ensures _ c.in-Entry.is)).fits)),
    )

pub cut-s-requires : goal.cut-s-requires
cut-s-requires c = slot-lies c.requires.split_fits.slots c.args.slot c.requires.slot_lt_slots

pub loop-header-init : goal.loop-header-init
loop-header-init c =
    rw c.digest_size-at.ensures
    (forgot-measured _ _ _ _ _ _ _ _ _ c.cut-s.ensures, omega arith, omega (arith, long (goal.at.loop-header-init c).After-cut-s, c.requires.split_fits.slots.size_low, width-high c.args.edition))

pub overflow_mul-place : goal.overflow_mul-place
overflow_mul-place c = omega (arith, place c)

pub overflow_add-place : goal.overflow_add-place
overflow_add-place c = omega (arith, place c)

pub measure_entry-total-requires : goal.measure_entry-total-requires
measure_entry-total-requires c =
    record {
      marks_len = c.requires.split_fits.marks-long;
      length_in_bounds = (lies c, area-short c.requires.split_fits.slots);
      place_bound = place c;
      edition_bound = low c;
    }

pub overflow_add-total : goal.overflow_add-total
overflow_add-total c =
    omega (arith, short c, met (goal.at.overflow_add-total c).In-Entry, long (goal.at.overflow_add-total c).After-cut-s, c.loop-header.invariant.1, c.requires.split_fits.slots.size-high)

pub overflow_add-at : goal.overflow_add-at
overflow_add-at c =
    omega (arith, met (goal.at.overflow_add-at c).In-Entry, long (goal.at.overflow_add-at c).After-cut-s, c.requires.split_fits.slots.size-high)

pub loop-header-smaller : goal.loop-header-smaller
loop-header-smaller c = omega (arith, met (goal.at.loop-header-smaller c).In-Entry)

pub loop-header-preserved : goal.loop-header-preserved
loop-header-preserved c =
    let l = c.loop-header in (
      measured-entry _ (forgot_entry _ _ _ _ _) _ _ _ _ _ _ l.invariant.0 (met (goal.at.loop-header-preserved c).In-Entry) _ c.measure_entry-total.ensures _ refl,
      omega (arith, short (goal.at.loop-header-preserved c).After-measure_entry-total, l.invariant.1),
      omega (arith, met (goal.at.loop-header-preserved c).In-Entry),
    )

pub returns-in-End : goal.returns-in-End
returns-in-End c =
    let l = c.loop-header in (
      measured-stop _ (forgot_entry _ _ _ _ _) _ _ _ _ _ _ l.invariant.0 (stops_end _ _ _ _ c.next.ensures c.in-End.is),
      omega (arith, l.invariant.1, l.invariant.2, long (goal.at.returns-in-End c).After-cut-s, c.requires.split_fits.slots.size-high),
    )

pub returns-in-Damage : goal.returns-in-Damage
returns-in-Damage c =
    let l = c.loop-header in (
      measured-stop _ (forgot_entry _ _ _ _ _) _ _ _ _ _ _ l.invariant.0 (stops-damage _ _ _ _ c.next.ensures c.in-Damage.is),
      omega (arith, l.invariant.1, l.invariant.2, long (goal.at.returns-in-Damage c).After-cut-s, c.requires.split_fits.slots.size-high),
    )
