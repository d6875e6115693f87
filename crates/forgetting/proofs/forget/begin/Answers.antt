-- `forgetting::forget::begin` meets its contract.
use Prim.Native.Nat.{◌+◌, ◌≤◌}
use native.Mathlib.Omega.{arith}
use lib.ListN.{length}
use Rattle.segment.specs.Layout.{digest_size}
use Rattle.segment.proofs.LayoutLaws.{limit-high}
use Rattle.record.specs.Switch.{new_layout}
use Rattle.starting.specs.Stores.{head-most}
use Rattle.starting.specs.NewHead.{head-ready}
use Rattle.forgetting.specs.Forgot.{forgot_slot}
use Rattle.forgetting.specs.DeleteLaws.{forgot-filled}
use Rattle.forgetting.proofs.DeleteLaws.{fits-room, victim-fits, victim-below, victim-size, victim-within}
use Rattle.forgetting.proofs.forget.begin.Goals as goal
use Rattle.forgetting.proofs.forget.begin.Goals.{Start}

-- what comes of the victim fits a segment
room : (s : Start)
    → let a = s.args in
    digest_size a.into + length (forgot_slot a.edition a.into a.area.now a.index.now a.marks.now a.live a.split.size a.slot) ≤ a.split.size
room s = fits-room _ _ _ s.requires.slot_value

pub overflow_add-next : goal.overflow_add-next
overflow_add-next c =
    omega (arith, c.requires.victim_ready.version-left, limit-high (new_layout c.args.rec))

pub new_digest-requires : goal.new_digest-requires
new_digest-requires c =
    let v = c.requires.victim_ready in
    head-ready _ _ _ _ v.lent _ (victim-within v) c.requires.number_left _ c.next_free-head.ensures

pub write_digest-requires : goal.write_digest-requires
write_digest-requires c =
    let v = c.requires.victim_ready in
    omega (arith, room (goal.at.write_digest-requires c).Start, victim-size v, v.long)

pub put_slot-count-requires : goal.put_slot-count-requires
put_slot-count-requires c =
    let v = c.requires.victim_ready in
    record {
      split_fits = victim-fits v;
      slot_lt_slots = victim-below v;
      slot_in_bounds = omega (arith, room (goal.at.put_slot-count-requires c).Start, victim-size v, v.long);
    }

pub head_stores-left-requires : goal.head_stores-left-requires
head_stores-left-requires c =
    let v = c.requires.victim_ready in
    (omega (arith, c.put_slot-count.ensures.behind, room (goal.at.head_stores-left-requires c).Start, victim-size v), v.lent.size-high)

pub overflow_cast-left : goal.overflow_cast-left
overflow_cast-left c =
    let v = c.requires.victim_ready in
    let most = head-most _ _ c.head_stores-left.ensures in
    omega (arith, c.put_slot-count.ensures.behind, room (goal.at.overflow_cast-left c).Start, victim-size v, v.lent.size-high)

pub overflow_cast-length : goal.overflow_cast-length
overflow_cast-length c =
    let v = c.requires.victim_ready in
    omega (arith, c.put_slot-count.ensures.behind, room (goal.at.overflow_cast-length c).Start, victim-size v, v.lent.size-high)

pub returns : goal.returns
returns c =
    forgot-filled _ _ _ _ _ _ _ _ _ _ _ _ c.new_digest.ensures c.write_digest.ensures c.put_slot-count.ensures
    c.next_free-head.ensures c.head_stores-left.ensures c.started.ensures
