use Prim.Native.Nat.{◌+◌, ◌*◌, ◌<◌}
use mathlib.Core.Path.{◌≡◌, sym, ◌∙◌}
use native.Mathlib.Omega.{arith}
use lib.ListN.{length}
use Rattle.cleaning.specs.EntriesLaws.{Meets}
use Rattle.cleaning.proofs.EntriesLaws.{meets, tombstone-length, slot-long, place_short}
use Rattle.cleaning.proofs.RunsLaws.{run-entry}
use Rattle.cleaning.proofs.runs.run_behind.Goals as goal
use Rattle.cleaning.proofs.runs.run_behind.Goals.{After-cut-s, In-Entry}

-- the slot's part of the area is S bytes long
long : (c : After-cut-s) → length c.cut-s.result.now ≡ c.args.split.size
long c = slot-long c.requires.chosen_fits.slots _ c.requires.slot_lt_slots _ c.cut-s.ensures

-- the entry that the turn meets, and its place
met : (c : In-Entry)
    → Meets c.args.edition c.cut-s.result.now c.loop-header.at c.in-Entry.header
met c = meets _ _ _ _ c.next.ensures _ c.in-Entry.is

place : (c : In-Entry)
    → let a = c.args in
    a.slot * a.split.size + c.loop-header.at < 65536
place c =
    place_short c.requires.chosen_fits.slots _ c.requires.slot_lt_slots _ c.cut-s.ensures _ _ (met c).fits (met c).some_byte

pub behind-at-requires : goal.behind-at-requires
behind-at-requires c =
    record {
      length_bound = omega (arith, met (goal.at.behind-at-requires c).In-Entry, long (goal.at.behind-at-requires c).After-cut-s, c.requires.chosen_fits.slots.size-high);
      length_value = tombstone-length _ _ _ (met (goal.at.behind-at-requires c).In-Entry);
    }

pub loop-header-smaller : goal.loop-header-smaller
loop-header-smaller c = omega (arith, c.behind-at.ensures, met (goal.at.loop-header-smaller c).In-Entry)

pub loop-header-preserved : goal.loop-header-preserved
loop-header-preserved c =
    run-entry _ _ _ _ _ _ _ (met (goal.at.loop-header-preserved c).In-Entry) _ c.behind-at.ensures _ c.loop-header.invariant (sym c.is_chosen.ensures ∙ c.if-not-is_chosen.false)
