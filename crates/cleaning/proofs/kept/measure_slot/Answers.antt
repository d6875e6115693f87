use Prim.Native.Nat.{◌+◌, ◌*◌, ◌≤◌, ◌<◌}
use mathlib.Core.Path.{◌≡◌, refl, ◌∙◌, ap}
use native.Mathlib.Omega.{arith}
use lib.ListN.{length}
use Rattle.segment.proofs.LayoutLaws.{width-high}
use Rattle.cleaning.specs.Kept.{kept_test, kept_entry}
use Rattle.cleaning.proofs.ChosenLaws.{choice-stop, choice-entry, choice-whole, length-choice}
use Rattle.cleaning.specs.EntriesLaws.{Meets}
use Rattle.cleaning.proofs.EntriesLaws.{meets, meets-long, stops_end, stops-damage, tombstone-length, area-short, slot-long, entry-lies, place_short}
use Rattle.cleaning.specs.KeptLaws.{measured-stop, measured-entry}
use Rattle.cleaning.proofs.KeptLaws.{measured-whole, entry-short}
use Rattle.cleaning.proofs.kept.measure_slot.Goals as goal
use Rattle.cleaning.proofs.kept.measure_slot.Goals.{After-choose_kept-total, After-cut-s, In-Entry}

-- the slot's part of the area is S bytes long
long : (c : After-cut-s) → length c.cut-s.result.now ≡ c.args.split.size
long c = slot-long c.requires.split_fits.0.slots _ c.requires.slot_lt_slots _ c.cut-s.ensures

-- the entry that the turn meets, and its place
met : (c : In-Entry)
    → Meets c.args.edition c.cut-s.result.now c.loop-header.at c.in-Entry.header
met c = meets _ _ _ _ c.next.ensures _ c.in-Entry.is

place : (c : In-Entry)
    → let a = c.args in
    a.slot * a.split.size + c.loop-header.at < 65536
place c =
    place_short c.requires.split_fits.0.slots _ c.requires.slot_lt_slots _ c.cut-s.ensures _ _ (met c).fits (met c).some_byte

-- the entry lies within the area
lies : (c : In-Entry)
    → let a = c.args in
    a.slot * a.split.size + c.loop-header.at + c.in-Entry.header.length ≤ length a.area.now
lies c =
    entry-lies c.requires.split_fits.0.slots _ c.requires.slot_lt_slots _ c.cut-s.ensures _ _ (met c).fits

short : (c : After-choose_kept-total) → c.choose_kept-total.result ≤ 2 * c.in-Entry.header.length
short c =
    let a = c.args in
    omega (
      arith,
      c.choose_kept-total.ensures.0,
      entry-short a.into a.area.now a.cells.now a.marks.now a.edition c.in-Entry.header
          (a.slot * a.split.size + c.loop-header.at) (meets-long _ _ _ (meets _ _ _ _ c.next.ensures _ c.in-Entry.is)) (entry-lies c.requires.split_fits.0.slots _ c.requires.slot_lt_slots _ c.cut-s.ensures _ _ (meets _ _ _ _ c.next.ensures _ c.in-Entry.is).fits),
    )

pub loop-header-init : goal.loop-header-init
loop-header-init c =
    rw c.digest_size-at.ensures
    (measured-whole _ _ _ _ _ _ _ _ c.cut-s.ensures, omega arith, omega (arith, long (goal.at.loop-header-init c).After-cut-s, c.requires.split_fits.0.slots.size_low, width-high c.args.edition), refl, refl)

pub choose_kept-total-requires-clause-length_in_bounds : goal.choose_kept-total-requires-clause-length_in_bounds
choose_kept-total-requires-clause-length_in_bounds c =
    (lies (goal.at.choose_kept-total-requires-clause-length_in_bounds c).In-Entry, area-short c.requires.split_fits.0.slots)

pub choose_kept-total-requires-clause-place_bound : goal.choose_kept-total-requires-clause-place_bound
choose_kept-total-requires-clause-place_bound c =
    place (goal.at.choose_kept-total-requires-clause-place_bound c).In-Entry

pub choose_kept-total-requires-clause-edition_bound : goal.choose_kept-total-requires-clause-edition_bound
choose_kept-total-requires-clause-edition_bound c =
    meets-long _ _ _ (met (goal.at.choose_kept-total-requires-clause-edition_bound c).In-Entry)

pub overflow_add-total : goal.overflow_add-total
overflow_add-total c =
    omega (arith, short (goal.at.overflow_add-total c).After-choose_kept-total, met (goal.at.overflow_add-total c).In-Entry, long (goal.at.overflow_add-total c).After-cut-s, c.loop-header.invariant.1)

pub behind-at-requires : goal.behind-at-requires
behind-at-requires c =
    record {
      length_bound = omega (arith, met (goal.at.behind-at-requires c).In-Entry, long (goal.at.behind-at-requires c).After-cut-s, c.requires.split_fits.0.slots.size-high);
      length_value = tombstone-length _ _ _ (met (goal.at.behind-at-requires c).In-Entry);
    }

pub loop-header-smaller : goal.loop-header-smaller
loop-header-smaller c = omega (arith, c.behind-at.ensures, met (goal.at.loop-header-smaller c).In-Entry)

pub loop-header-preserved : goal.loop-header-preserved
loop-header-preserved c =
    let l = c.loop-header in
    let b = c.behind-at.ensures in (
      measured-entry _ (kept_entry _ _ _ _) _ _ _ _ _ _ l.invariant.0 (met (goal.at.loop-header-preserved c).In-Entry) _ c.choose_kept-total.ensures.0 _ b,
      omega (arith, b, short (goal.at.loop-header-preserved c).After-choose_kept-total, l.invariant.1),
      omega (arith, b, met (goal.at.loop-header-preserved c).In-Entry),
      choice-entry (kept_test _ _ _) _ _ _ _ _ _ _ l.invariant.3 (met (goal.at.loop-header-preserved c).In-Entry) _ c.choose_kept-total.ensures.1 _ b,
      ap length c.choose_kept-total.ensures.1 ∙ length-choice (kept_test _ _ _) _ _ _ _ l.invariant.4,
    )

pub returns-in-End : goal.returns-in-End
returns-in-End c =
    let l = c.loop-header in
    let a = c.args in
    let stop = stops_end _ _ _ _ c.next.ensures c.in-End.is in (
      measured-stop _ (kept_entry _ _ _ _) _ _ _ _ _ _ l.invariant.0 stop,
      omega (arith, l.invariant.1, l.invariant.2, long (goal.at.returns-in-End c).After-cut-s, c.requires.split_fits.0.slots.size-high),
      choice-stop (kept_test _ _ _) _ _ _ _ _ _ _ l.invariant.3 stop
          ∙ choice-whole (kept_test a.area.now a.cells.now a.marks.now) a.split.size _ a.area.now a.chosen.now a.slot _ c.cut-s.ensures,
    )

pub returns-in-Damage : goal.returns-in-Damage
returns-in-Damage c =
    let l = c.loop-header in
    let a = c.args in
    let stop = stops-damage _ _ _ _ c.next.ensures c.in-Damage.is in (
      measured-stop _ (kept_entry _ _ _ _) _ _ _ _ _ _ l.invariant.0 stop,
      omega (arith, l.invariant.1, l.invariant.2, long (goal.at.returns-in-Damage c).After-cut-s, c.requires.split_fits.0.slots.size-high),
      choice-stop (kept_test _ _ _) _ _ _ _ _ _ _ l.invariant.3 stop
          ∙ choice-whole (kept_test a.area.now a.cells.now a.marks.now) a.split.size _ a.area.now a.chosen.now a.slot _ c.cut-s.ensures,
    )
