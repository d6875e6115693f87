use Prim.Native.Nat.{◌+◌, ◌*◌, ◌-◌, ◌≤◌, ◌<◌}
use mathlib.Core.Bool.{true}
use mathlib.Core.Path.{◌≡◌, sym, ◌∙◌}
use native.Mathlib.Nat.{mul-le-mul}
use native.Mathlib.Omega.{arith}
use lib.ListN.{length}
use Rattle.segment.proofs.LayoutLaws.{width-high}
use Rattle.index.specs.Search.{search_for}
use Rattle.cleaning.specs.EntriesLaws.{Meets}
use Rattle.cleaning.proofs.EntriesLaws.{meets, stops_end, stops-damage, tombstone-length, meets-long, slot-lies, slot-long, place_short}
use Rattle.joining.specs.NotesLaws.{Noting, noting-start, noting-tombstone, noting-object, noting-stop, found-short}
use Rattle.joining.proofs.notes.note_slot.Goals as goal
use Rattle.joining.proofs.notes.note_slot.Goals.{After-cut-s, After-head_size-counted, After-head_size-head, At-loop-header, In-Entry}

-- the slot's part of the area is S bytes long
long : (c : After-cut-s) → length c.cut-s.result.now ≡ c.args.split.size
long c = slot-long c.requires.notes_fit.slots _ c.requires.slot_lt_slots _ c.cut-s.ensures

so_far : (c : At-loop-header)
    → let a = c.args in Noting a.edition a.into a.area.now a.cells.now a.split.size a.slot c.cut-s.result.now a.notes.now c.loop-header.notes c.loop-header.at c.loop-header.objects c.loop-header.tombstones
so_far c = c.loop-header.invariant _ c.head_size-counted.ensures

-- the entry that the turn meets, and its place
met : (c : In-Entry) → Meets c.args.edition c.cut-s.result.now c.loop-header.at c.in-Entry.header
met c = meets _ _ _ _ c.next.ensures _ c.in-Entry.is

place : (c : In-Entry) → c.args.slot * c.args.split.size + c.loop-header.at < 65536
place c = place_short c.requires.notes_fit.slots _ c.requires.slot_lt_slots _ c.cut-s.ensures _ _ (met c).fits (met c).some_byte

-- a tombstone has no value
tombstone-long : (c : In-Entry) → c.in-Entry.header.tombstone ≡ true → c.in-Entry.header.length ≡ c.head_size-head.result
tombstone-long c t = tombstone-length _ _ _ (met c) t ∙ sym c.head_size-head.ensures

-- and any entry has what stands before a value
head-short : (c : In-Entry) → c.head_size-head.result ≤ c.in-Entry.header.length
head-short c = omega (arith, c.head_size-head.ensures, meets-long _ _ _ (met c))

head_few : (c : After-head_size-head) → c.head_size-head.result ≤ 15
head_few c = omega (arith, c.head_size-head.ensures, width-high c.args.edition)

counted-few : (c : After-head_size-counted) → c.head_size-counted.result ≤ 15
counted-few c = omega (arith, c.head_size-counted.ensures, width-high c.args.into)

pub cut-s-requires : goal.cut-s-requires
cut-s-requires c = slot-lies c.requires.notes_fit.slots c.args.slot c.requires.slot_lt_slots

pub loop-header-init : goal.loop-header-init
loop-header-init c =
    rw c.digest_size-at.ensures (λ W e. noting-start _ W _ _ _ _ _ _ (omega (arith, long (goal.at.loop-header-init c).After-cut-s, c.requires.notes_fit.slots.size_low, width-high c.args.edition)))

pub overflow_add-tombstones : goal.overflow_add-tombstones
overflow_add-tombstones c = omega (arith, counted-few (goal.at.overflow_add-tombstones c).After-head_size-counted, (so_far (goal.at.overflow_add-tombstones c).At-loop-header).short, (so_far (goal.at.overflow_add-tombstones c).At-loop-header).inside, long (goal.at.overflow_add-tombstones c).After-cut-s, c.requires.notes_fit.slots.size-high)

pub overflow_add-at : goal.overflow_add-at
overflow_add-at c = omega (arith, head_few (goal.at.overflow_add-at c).After-head_size-head, (so_far (goal.at.overflow_add-at c).At-loop-header).inside, long (goal.at.overflow_add-at c).After-cut-s, c.requires.notes_fit.slots.size-high)

pub loop-header-smaller-then-header : goal.loop-header-smaller-then-header
loop-header-smaller-then-header c = omega (arith, tombstone-long (goal.at.loop-header-smaller-then-header c).In-Entry c.if-header.true, (met (goal.at.loop-header-smaller-then-header c).In-Entry).fits)

pub loop-header-preserved-then-header : goal.loop-header-preserved-then-header
loop-header-preserved-then-header c W e = noting-tombstone _ _ _ _ _ _ _ _ _ _ _ _ (c.loop-header.invariant W e) (met (goal.at.loop-header-preserved-then-header c).In-Entry) c.if-header.true _ _ c.head_size-head.ensures e

pub overflow_sub-header : goal.overflow_sub-header
overflow_sub-header c = omega (arith, head-short (goal.at.overflow_sub-header c).In-Entry)

pub overflow_add-header : goal.overflow_add-header
overflow_add-header c = omega (arith, (met (goal.at.overflow_add-header c).In-Entry).fits, counted-few (goal.at.overflow_add-header c).After-head_size-counted, long (goal.at.overflow_add-header c).After-cut-s, c.requires.notes_fit.slots.size-high)

pub overflow_mul-slot : goal.overflow_mul-slot
overflow_mul-slot c = omega (arith, place (goal.at.overflow_mul-slot c).In-Entry)

pub overflow_add-slot : goal.overflow_add-slot
overflow_add-slot c = omega (arith, place (goal.at.overflow_add-slot c).In-Entry)

pub note_key-objects-requires : goal.note_key-objects-requires
note_key-objects-requires c =
    record {
      area_len_bound = omega (arith, c.requires.notes_fit.slots.whole, mul-le-mul c.requires.notes_fit.slots.slots-high c.requires.notes_fit.slots.size-high);
      notes_len = (so_far (goal.at.note_key-objects-requires c).At-loop-header).same_length ∙ c.requires.notes_fit.notes-long;
      slot_bound = omega (arith, c.requires.slot_lt_slots, c.requires.notes_fit.slots.slots-high);
      size_bound = c.requires.notes_fit.slots.size-high;
      size_bound_2 = omega arith;
      place_bound = omega (arith, (met (goal.at.note_key-objects-requires c).In-Entry).fits, (met (goal.at.note_key-objects-requires c).In-Entry).some_byte, long (goal.at.note_key-objects-requires c).After-cut-s);
    }

pub overflow_add-objects : goal.overflow_add-objects
overflow_add-objects c =
    let a = c.args in
    let h = c.in-Entry.header in
    omega (
      arith,
      c.note_key-objects.ensures.0,
      found-short a.cells.now (a.slot * a.split.size + c.loop-header.at) (h.length - c.head_size-head.result + c.head_size-counted.result) (search_for a.area.now a.cells.now h.key),
      (so_far (goal.at.overflow_add-objects c).At-loop-header).short,
      (met (goal.at.overflow_add-objects c).In-Entry).fits,
      counted-few (goal.at.overflow_add-objects c).After-head_size-counted,
      long (goal.at.overflow_add-objects c).After-cut-s,
      c.requires.notes_fit.slots.size-high,
    )

pub overflow_add-at-else-header : goal.overflow_add-at-else-header
overflow_add-at-else-header c = omega (arith, (met (goal.at.overflow_add-at-else-header c).In-Entry).fits, long (goal.at.overflow_add-at-else-header c).After-cut-s, c.requires.notes_fit.slots.size-high)

pub loop-header-smaller : goal.loop-header-smaller
loop-header-smaller c = omega (arith, met (goal.at.loop-header-smaller c).In-Entry)

pub loop-header-preserved : goal.loop-header-preserved
loop-header-preserved c W e =
    noting-object _ _ _ _ _ _ _ _ _ _ _ _ (c.loop-header.invariant W e) (met (goal.at.loop-header-preserved c).In-Entry) c.if-header.false _ _ c.head_size-head.ensures e _ _ c.note_key-objects.ensures

pub shape_of-notes-in-End : goal.shape_of-notes-in-End
shape_of-notes-in-End c = (so_far (goal.at.shape_of-notes-in-End c).At-loop-header).same_length

pub returns-in-End : goal.returns-in-End
returns-in-End c =
    noting-stop _ _ _ _ _ _ _ _ _ _ _ _ (so_far (goal.at.returns-in-End c).At-loop-header) (stops_end _ _ _ _ c.next.ensures c.in-End.is)
    c.cut-s.ensures (omega (arith, long (goal.at.returns-in-End c).After-cut-s, c.requires.notes_fit.slots.size-high))

pub shape_of-notes-in-Damage : goal.shape_of-notes-in-Damage
shape_of-notes-in-Damage c = (so_far (goal.at.shape_of-notes-in-Damage c).At-loop-header).same_length

pub returns-in-Damage : goal.returns-in-Damage
returns-in-Damage c =
    noting-stop _ _ _ _ _ _ _ _ _ _ _ _ (so_far (goal.at.returns-in-Damage c).At-loop-header) (stops-damage _ _ _ _ c.next.ensures c.in-Damage.is)
    c.cut-s.ensures (omega (arith, long (goal.at.returns-in-Damage c).After-cut-s, c.requires.notes_fit.slots.size-high))
