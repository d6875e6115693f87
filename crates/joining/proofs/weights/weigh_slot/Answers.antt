use Prim.Native.Nat.{◌+◌, ◌*◌, ◌≤◌, ◌<◌}
use mathlib.Core.Bool.{true}
use mathlib.Core.Path.{◌≡◌, sym, ◌∙◌, subst⁻¹}
use native.Mathlib.Omega.{arith}
use lib.ListN.{length}
use Rattle.segment.proofs.LayoutLaws.{width-high}
use Rattle.cleaning.specs.EntriesLaws.{Meets}
use Rattle.cleaning.proofs.EntriesLaws.{meets, stops_end, stops-damage, tombstone-length, slot-lies, slot-long, place_short}
use Rattle.joining.specs.Weights.{ShareFits}
use Rattle.joining.specs.WeightsLaws.{Weighing, weighing-start, weighing-tombstone, weighing-object, weighing-passed, weighing-stop, note-fits, share-short}
use Rattle.joining.proofs.weights.weigh_slot.Goals as goal
use Rattle.joining.proofs.weights.weigh_slot.Goals.{After-cut-s, After-head_size-counted, After-head_size-head, At-loop-header, In-Entry}

-- the slot's part of the area is S bytes long
long : (c : After-cut-s) → length c.cut-s.result.now ≡ c.args.split.size
long c = slot-long c.requires.slots_fit _ c.requires.slot_lt_slots _ c.cut-s.ensures

so_far : (c : At-loop-header)
    → let a = c.args in Weighing a.edition a.into a.area.now a.notes.now a.split.size a.slot c.cut-s.result.now a.shares.now c.loop-header.shares c.loop-header.at c.loop-header.total
so_far c = c.loop-header.invariant _ c.head_size-counted.ensures

-- the entry that the turn meets, and its place
met : (c : In-Entry) → Meets c.args.edition c.cut-s.result.now c.loop-header.at c.in-Entry.header
met c = meets _ _ _ _ c.next.ensures _ c.in-Entry.is

place : (c : In-Entry) → c.args.slot * c.args.split.size + c.loop-header.at < 65536
place c = place_short c.requires.slots_fit _ c.requires.slot_lt_slots _ c.cut-s.ensures _ _ (met c).fits (met c).some_byte

-- a tombstone has no value
tombstone-long : (c : In-Entry) → c.in-Entry.header.tombstone ≡ true → c.in-Entry.header.length ≡ c.head_size-head.result
tombstone-long c t = tombstone-length _ _ _ (met c) t ∙ sym c.head_size-head.ensures

head_few : (c : After-head_size-head) → c.head_size-head.result ≤ 15
head_few c = omega (arith, c.head_size-head.ensures, width-high c.args.edition)

-- the slot's numbers are within the list
row : (c : At-loop-header) → c.args.slot * 32 + 32 ≤ length c.loop-header.shares
row c = omega (arith, (so_far c).same_length, c.requires.shares_len, c.requires.slot_lt_slots, c.requires.slots_fit.slots-high)

counted-few : (c : After-head_size-counted) → c.head_size-counted.result ≤ 15
counted-few c = omega (arith, c.head_size-counted.ensures, width-high c.args.into)

pub cut-s-requires : goal.cut-s-requires
cut-s-requires c = slot-lies c.requires.slots_fit c.args.slot c.requires.slot_lt_slots

pub loop-header-init : goal.loop-header-init
loop-header-init c =
    rw c.digest_size-at.ensures
    (λ W e. weighing-start _ W _ _ _ _ _ _ c.requires.clear (omega (arith, long (goal.at.loop-header-init c).After-cut-s, c.requires.slots_fit.size_low, width-high c.args.edition)))

pub overflow_mul-slot : goal.overflow_mul-slot
overflow_mul-slot c = omega (arith, place (goal.at.overflow_mul-slot c).In-Entry)

pub overflow_add-slot : goal.overflow_add-slot
overflow_add-slot c = omega (arith, place (goal.at.overflow_add-slot c).In-Entry)

pub bounds-notes-slot : goal.bounds-notes-slot
bounds-notes-slot c = omega (arith, place (goal.at.bounds-notes-slot c).In-Entry, c.requires.notes_len)

pub add_share-total-requires : goal.add_share-total-requires
add_share-total-requires c =
    let l = so_far (goal.at.add_share-total-requires c).At-loop-header in
    record {
      shares_len = l.same_length ∙ c.requires.shares_len;
      base_bound = omega (arith, c.requires.slot_lt_slots, c.requires.slots_fit.slots-high);
      low = λ j few. omega (arith, l.low j few, l.short, l.inside, long (goal.at.add_share-total-requires c).After-cut-s, c.requires.slots_fit.size-high);
      share_fits = subst⁻¹ ShareFits c.note_share-share.ensures (note-fits _);
      count_bound = omega (arith, counted-few (goal.at.add_share-total-requires c).After-head_size-counted);
    }

pub overflow_add-total : goal.overflow_add-total
overflow_add-total c =
    let l = so_far (goal.at.overflow_add-total c).At-loop-header in
    omega (arith, c.add_share-total.ensures.0, share-short c.note_share-share.result c.head_size-counted.result, counted-few (goal.at.overflow_add-total c).After-head_size-counted, l.short, l.inside, long (goal.at.overflow_add-total c).After-cut-s, c.requires.slots_fit.size-high)

pub overflow_add-at : goal.overflow_add-at
overflow_add-at c = omega (arith, head_few (goal.at.overflow_add-at c).After-head_size-head, (so_far (goal.at.overflow_add-at c).At-loop-header).inside, long (goal.at.overflow_add-at c).After-cut-s, c.requires.slots_fit.size-high)

pub loop-header-smaller-then-header : goal.loop-header-smaller-then-header
loop-header-smaller-then-header c = omega (arith, tombstone-long (goal.at.loop-header-smaller-then-header c).In-Entry c.if-header.true, (met (goal.at.loop-header-smaller-then-header c).In-Entry).fits)

pub loop-header-preserved-then-header : goal.loop-header-preserved-then-header
loop-header-preserved-then-header c W e =
    weighing-tombstone _ _ _ _ _ _ _ _ _ _ _ (c.loop-header.invariant W e) (met (goal.at.loop-header-preserved-then-header c).In-Entry) c.if-header.true _ _ c.head_size-head.ensures e _
    c.note_share-share.ensures (row (goal.at.loop-header-preserved-then-header c).At-loop-header) _ _ c.add_share-total.ensures

pub overflow_add-at-else-header : goal.overflow_add-at-else-header
overflow_add-at-else-header c = omega (arith, (met (goal.at.overflow_add-at-else-header c).In-Entry).fits, long (goal.at.overflow_add-at-else-header c).After-cut-s, c.requires.slots_fit.size-high)

pub behind-at-requires : goal.behind-at-requires
behind-at-requires c =
    record {
      from_in_bounds = (met (goal.at.behind-at-requires c).In-Entry).fits;
      s_len_bound = omega (arith, long (goal.at.behind-at-requires c).After-cut-s, c.requires.slots_fit.size-high);
    }

pub loop-header-smaller : goal.loop-header-smaller
loop-header-smaller c = omega (arith, met (goal.at.loop-header-smaller c).In-Entry, c.behind-at.ensures.forward, c.behind-at.ensures.inside)

pub loop-header-preserved : goal.loop-header-preserved
loop-header-preserved c W e =
    weighing-passed _ _ _ _ _ _ _ _ _ _ _
    (weighing-object _ _ _ _ _ _ _ _ _ _ _ (c.loop-header.invariant W e) (met (goal.at.loop-header-preserved c).In-Entry) c.if-header.false (row (goal.at.loop-header-preserved c).At-loop-header)) _ c.behind-at.ensures

pub shape_of-shares-in-End : goal.shape_of-shares-in-End
shape_of-shares-in-End c = (so_far (goal.at.shape_of-shares-in-End c).At-loop-header).same_length

pub returns-in-End : goal.returns-in-End
returns-in-End c =
    weighing-stop _ _ _ _ _ _ _ _ _ _ _ (so_far (goal.at.returns-in-End c).At-loop-header) (stops_end _ _ _ _ c.next.ensures c.in-End.is)
    c.cut-s.ensures (omega (arith, long (goal.at.returns-in-End c).After-cut-s, c.requires.slots_fit.size-high))

pub shape_of-shares-in-Damage : goal.shape_of-shares-in-Damage
shape_of-shares-in-Damage c = (so_far (goal.at.shape_of-shares-in-Damage c).At-loop-header).same_length

pub returns-in-Damage : goal.returns-in-Damage
returns-in-Damage c =
    weighing-stop _ _ _ _ _ _ _ _ _ _ _ (so_far (goal.at.returns-in-Damage c).At-loop-header) (stops-damage _ _ _ _ c.next.ensures c.in-Damage.is)
    c.cut-s.ensures (omega (arith, long (goal.at.returns-in-Damage c).After-cut-s, c.requires.slots_fit.size-high))
