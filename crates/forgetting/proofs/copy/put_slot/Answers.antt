use Prim.Native.Nat.{◌+◌, ◌*◌, ◌<◌}
use mathlib.Core.Path.{◌≡◌}
use native.Mathlib.Omega.{arith}
use lib.ListN.{length}
use Rattle.segment.proofs.Copied.{copying-start, copying-room, copying-next, copying-end}
use Rattle.cleaning.specs.EntriesLaws.{Meets}
use Rattle.cleaning.proofs.EntriesLaws.{meets, meets-long, stops_end, stops-damage, slot-lies, slot-long, entry-lies, place_short}
use Rattle.cleaning.specs.KeptLaws.{parts-stop, parts-entry}
use Rattle.forgetting.specs.Forgot.{forgot_entry}
use Rattle.forgetting.proofs.ForgotLaws.{forgot_from, forgot-whole}
use Rattle.forgetting.proofs.copy.put_slot.Goals as goal
use Rattle.forgetting.proofs.copy.put_slot.Goals.{After-cut-s, In-Entry}

-- the slot's part of the area is S bytes long
long : (c : After-cut-s) → length c.cut-s.result.now ≡ c.args.split.size
long c = slot-long c.requires.split_fits.slots _ c.requires.slot_lt_slots _ c.cut-s.ensures

-- the entry that the turn meets, and its place
met : (c : In-Entry)
    → Meets c.args.edition c.cut-s.result.now c.loop-header.at c.in-Entry.header
met c = meets _ _ _ _ c.next.ensures _ c.in-Entry.is

place : (c : In-Entry)
    → let a = c.args in
    a.slot * a.split.size + c.loop-header.at < 65536
place c =
    place_short c.requires.split_fits.slots _ c.requires.slot_lt_slots _ c.cut-s.ensures _ _ (met c).fits (met c).some_byte

pub cut-s-requires : goal.cut-s-requires
cut-s-requires c = slot-lies c.requires.split_fits.slots c.args.slot c.requires.slot_lt_slots

pub loop-header-init : goal.loop-header-init
loop-header-init c =
    rw (c.digest_size-to.ensures, c.digest_size-at.ensures) (copying-start _ _ _ _ (forgot-whole _ _ _ _ _ _ _ _ _ c.cut-s.ensures))

pub overflow_mul-slot : goal.overflow_mul-slot
overflow_mul-slot c = omega (arith, place c)

pub overflow_add-slot : goal.overflow_add-slot
overflow_add-slot c = omega (arith, place c)

pub put_entry-to-requires : goal.put_entry-to-requires
put_entry-to-requires c =
    let a = c.args in let l = c.loop-header in let cut = c.cut-s in let h = c.in-Entry.header in
    record {
      marks_len = c.requires.split_fits.marks-long;
      length_in_bounds = entry-lies c.requires.split_fits.slots _ c.requires.slot_lt_slots _ cut.ensures _ _ (met (goal.at.put_entry-to-requires c).In-Entry).fits;
      place_bound = place (goal.at.put_entry-to-requires c).In-Entry;
      edition_bound = meets-long _ _ _ (met (goal.at.put_entry-to-requires c).In-Entry);
      place_in_bounds = copying-room l.invariant c.requires.slot_in_bounds
          (forgot_entry a.into a.area.now a.cells.now a.marks.now a.live a.edition h (a.slot * a.split.size + l.at))
          (forgot_from a.edition a.into a.area.now a.cells.now a.marks.now a.live a.split.size a.slot cut.result.now (l.at + h.length))
          (parts-entry _ (forgot_entry _ _ _ _ _) _ _ _ _ (met (goal.at.put_entry-to-requires c).In-Entry));
    }

pub overflow_add-at : goal.overflow_add-at
overflow_add-at c =
    omega (arith, met (goal.at.overflow_add-at c).In-Entry, long (goal.at.overflow_add-at c).After-cut-s, c.requires.split_fits.slots.size-high)

pub loop-header-smaller : goal.loop-header-smaller
loop-header-smaller c = omega (arith, met (goal.at.loop-header-smaller c).In-Entry)

pub loop-header-preserved : goal.loop-header-preserved
loop-header-preserved c =
    copying-next c.loop-header.invariant _ _ _ _ (parts-entry _ (forgot_entry _ _ _ _ _) _ _ _ _ (met (goal.at.loop-header-preserved c).In-Entry))
    c.put_entry-to.ensures

pub shape_of-work-in-End : goal.shape_of-work-in-End
shape_of-work-in-End c = c.loop-header.invariant.long

pub returns-in-End : goal.returns-in-End
returns-in-End c =
    copying-end c.loop-header.invariant
    (parts-stop _ (forgot_entry _ _ _ _ _) _ _ _ _ (stops_end _ _ _ _ c.next.ensures c.in-End.is))

pub shape_of-work-in-Damage : goal.shape_of-work-in-Damage
shape_of-work-in-Damage c = c.loop-header.invariant.long

pub returns-in-Damage : goal.returns-in-Damage
returns-in-Damage c =
    copying-end c.loop-header.invariant
    (parts-stop _ (forgot_entry _ _ _ _ _) _ _ _ _ (stops-damage _ _ _ _ c.next.ensures c.in-Damage.is))
