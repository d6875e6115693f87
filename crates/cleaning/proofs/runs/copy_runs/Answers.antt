use Prim.Native.Nat.{◌+◌, ◌*◌, ◌≤◌, ◌<◌}
use mathlib.Core.Path.{◌≡◌, refl, sym, ◌∙◌}
use native.Mathlib.Omega.{arith}
use lib.ListN.{length}
use Rattle.cleaning.specs.ChosenLaws.{chosen_from, chosen-stop}
use Rattle.cleaning.specs.EntriesLaws.{Meets}
use Rattle.cleaning.proofs.EntriesLaws.{meets, stops_end, stops-damage, tombstone-length, slot-lies, slot-long, place_short}
use Rattle.cleaning.specs.Runs.{Run, stretch}
use Rattle.cleaning.proofs.RunsLaws.{run-as, run-first, run-passed, stretch-room, stretch-copied}
use Rattle.segment.proofs.Copied.{copied_none, copying-room, copying-next, copying-end}
use Rattle.cleaning.proofs.runs.copy_runs.Goals as goal
use Rattle.cleaning.proofs.runs.copy_runs.Goals.{After-cut-s, After-run_behind-at, In-Entry}

-- the slot's part of the area is S bytes long
long : (c : After-cut-s) → length c.cut-s.result.now ≡ c.args.split.size
long c = slot-long c.requires.chosen_fits.slots _ c.requires.slot_lt_slots _ c.cut-s.ensures

-- the entry that the turn meets, and its place
met : (c : In-Entry)
    → Meets c.args.edition c.cut-s.result.now c.loop-header.at c.in-Entry.header
met c = meets _ _ _ _ c.next.ensures _ c.in-Entry.is

place : (c : In-Entry)
    → let a = c.args in
    a.slot * a.split.size + c.loop-header.at < 65536
place c =
    place_short c.requires.chosen_fits.slots _ c.requires.slot_lt_slots _ c.cut-s.ensures _ _ (met c).fits (met c).some_byte

-- the run that begins with a chosen entry
the-run : (k : After-run_behind-at)
    → let a = k.args in
    Run a.edition a.area.now a.chosen.now a.split.size a.slot k.cut-s.result.now k.loop-header.at k.run_behind-at.result
the-run k =
    run-first _ _ _ _ _ _ _ ((meets _ _ _ _ k.next.ensures _ k.in-Entry.is)) _ k.behind-at.ensures _ (run-as (sym k.cut-s.ensures) k.run_behind-at.ensures)
    (sym k.is_chosen.ensures ∙ k.if-is_chosen.true)

-- it lies within the slot, which lies in the area
lies : (k : After-run_behind-at)
    → let a = k.args in
    a.slot * a.split.size + k.run_behind-at.result ≤ length a.area.now
lies k =
    omega (arith, (the-run k).high, (slot-long k.requires.chosen_fits.slots _ k.requires.slot_lt_slots _ k.cut-s.ensures), slot-lies k.requires.chosen_fits.slots k.args.slot k.requires.slot_lt_slots)

-- and the work buffer has room for it
room : (k : After-run_behind-at)
    → let a = k.args in
    k.loop-header.to + length (stretch a.area.now a.split.size a.slot k.loop-header.at k.run_behind-at.result) ≤ length k.loop-header.work
room k =
    let a = k.args in
    copying-room k.loop-header.invariant k.requires.slot_in_bounds
    (stretch a.area.now a.split.size a.slot k.loop-header.at k.run_behind-at.result)
    (chosen_from a.edition a.edition a.area.now a.chosen.now a.split.size a.slot k.cut-s.result.now k.run_behind-at.result)
    (the-run k).parts

pub behind-at-requires : goal.behind-at-requires
behind-at-requires c =
    record {
      length_bound = omega (arith, met c, long (goal.at.behind-at-requires c).After-cut-s, c.requires.chosen_fits.slots.size-high);
      length_value = tombstone-length _ _ _ (met c);
    }

pub overflow_add-start : goal.overflow_add-start
overflow_add-start c = omega (arith, place (goal.at.overflow_add-start c).In-Entry)

pub run_behind-at-requires-clause-from_le_size : goal.run_behind-at-requires-clause-from_le_size
run_behind-at-requires-clause-from_le_size c =
    omega (arith, c.behind-at.ensures, (met (goal.at.run_behind-at-requires-clause-from_le_size c).In-Entry).fits, long (goal.at.run_behind-at-requires-clause-from_le_size c).After-cut-s)

pub copy_into-requires : goal.copy_into-requires
copy_into-requires c =
    stretch-room _ _ _ _ _ (the-run (goal.at.copy_into-requires c).After-run_behind-at).low (lies (goal.at.copy_into-requires c).After-run_behind-at) _ _ (room (goal.at.copy_into-requires c).After-run_behind-at)

pub loop-header-smaller-then-is_chosen : goal.loop-header-smaller-then-is_chosen
loop-header-smaller-then-is_chosen c =
    omega (arith, c.behind-at.ensures, c.run_behind-at.ensures.low, (the-run (goal.at.loop-header-smaller-then-is_chosen c).After-run_behind-at).high, met (goal.at.loop-header-smaller-then-is_chosen c).In-Entry)

pub loop-header-preserved-then-is_chosen : goal.loop-header-preserved-then-is_chosen
loop-header-preserved-then-is_chosen c =
    copying-next c.loop-header.invariant _ _ _ _ (the-run (goal.at.loop-header-preserved-then-is_chosen c).After-run_behind-at).parts (stretch-copied _ _ _ _ _ (the-run (goal.at.loop-header-preserved-then-is_chosen c).After-run_behind-at).low (lies (goal.at.loop-header-preserved-then-is_chosen c).After-run_behind-at) _ _ _ c.copy_into.ensures)

pub loop-header-smaller : goal.loop-header-smaller
loop-header-smaller c = omega (arith, c.behind-at.ensures, met (goal.at.loop-header-smaller c).In-Entry)

pub loop-header-preserved : goal.loop-header-preserved
loop-header-preserved c =
    copying-next c.loop-header.invariant _ _ _ _
    (run-passed _ _ _ _ _ _ _ (met (goal.at.loop-header-preserved c).In-Entry) _ c.behind-at.ensures (sym c.is_chosen.ensures ∙ c.if-is_chosen.false))
    (copied_none _ _ _ refl)

pub returns-in-End : goal.returns-in-End
returns-in-End c = copying-end c.loop-header.invariant (chosen-stop _ _ _ _ _ _ _ _ (stops_end _ _ _ _ c.next.ensures c.in-End.is))

pub returns-in-Damage : goal.returns-in-Damage
returns-in-Damage c = copying-end c.loop-header.invariant (chosen-stop _ _ _ _ _ _ _ _ (stops-damage _ _ _ _ c.next.ensures c.in-Damage.is))
