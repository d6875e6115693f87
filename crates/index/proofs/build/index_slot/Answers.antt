use Rattle.std.specs.Prelude.{None}
use Prim.Native.Nat.{◌+◌, ◌≤◌, ◌<◌}
use mathlib.Core.Path.{◌≡◌, refl, ◌∙◌}
use native.Mathlib.Omega.{arith}
use lib.ListN.{length}
use borrow.Author.Rules.{rules}
use Rattle.segment.proofs.EntriesLaws.{next-tombstone}
use Rattle.index.proofs.Turns.{slot-start, slot-end, slot-damage, slot-fits, slot-over, slot_next, slot-few}
use Rattle.index.proofs.build.index_slot.Goals as goal
use Rattle.index.proofs.build.index_slot.Goals.{After-index_entry, In-Entry}

pub loop-header-init : goal.loop-header-init
loop-header-init c = (
  refl,
  search rules,
  slot-start _ _ _ _ _ _ _ c.digest_size-at.ensures,
)

-- an entry that is met lies within the segment
fits : (c : In-Entry) →
    (0 < c.in-Entry.header.length)
    × (c.loop-header.at + c.in-Entry.header.length ≤ c.args.size)
fits c =
    slot-fits _ _ _ _ _ _ _ _ c.loop-header.invariant.2 _ c.cut-s.ensures _ c.next.ensures _ c.in-Entry.is
    c.requires.0

-- the cells stay as many
long : (c : After-index_entry) →
    length c.index_entry.new.cells ≡ length c.args.cells.now
long c = c.index_entry.auto.cells ∙ c.loop-header.invariant.0

pub overflow_add-place : goal.overflow_add-place
overflow_add-place c = omega (arith, fits c)

pub index_entry-requires : goal.index_entry-requires
index_entry-requires c =
    let f = fits (goal.at.index_entry-requires c).In-Entry in
    (omega arith, c.loop-header.invariant.1)

pub returns-in_err-keys-in-Entry : goal.returns-in_err-keys-in-Entry
returns-in_err-keys-in-Entry c =
    let e : c.from_residual.result ≡ None = search rules in
    rw e
    (slot-over _ _ _ _ _ _ _ _ c.loop-header.invariant.2 _ c.cut-s.ensures _ c.next.ensures _ c.in-Entry.is _ _
    c.index_entry.ensures c.in_err-keys-in-Entry.was)

-- a segment is shorter than the bound of the way to the next entry, and a tombstone has no value
pub behind-at-requires : goal.behind-at-requires
behind-at-requires c =
    record {
      length_bound = omega (arith, fits (goal.at.behind-at-requires c).In-Entry);
      length_value = next-tombstone _ _ _ _ c.next.ensures _ c.in-Entry.is;
    }

pub loop-header-smaller : goal.loop-header-smaller
loop-header-smaller c = omega (arith, c.behind-at.ensures, fits (goal.at.loop-header-smaller c).In-Entry)

pub loop-header-preserved : goal.loop-header-preserved
loop-header-preserved c = (
  long (goal.at.loop-header-preserved c).After-index_entry,
  slot-few _ _ _ _ _ _ _ _ c.loop-header.invariant.2 _ c.cut-s.ensures _ c.next.ensures _ c.in-Entry.is _ _ c.index_entry.ensures _
      c.in_ok-keys-in-Entry.was c.loop-header.invariant.1,
  slot_next _ _ _ _ _ _ _ _ c.loop-header.invariant.2 _ c.cut-s.ensures _ c.next.ensures _ c.in-Entry.is _ _ c.index_entry.ensures _
      c.in_ok-keys-in-Entry.was _ c.behind-at.ensures,
)

pub shape_of-cells-in-End : goal.shape_of-cells-in-End
shape_of-cells-in-End c = c.loop-header.invariant.0

pub returns-in-End : goal.returns-in-End
returns-in-End c =
    slot-end _ _ _ _ _ _ _ _ c.loop-header.invariant.2 _ c.cut-s.ensures _ c.next.ensures c.in-End.is

pub shape_of-cells-in-Damage : goal.shape_of-cells-in-Damage
shape_of-cells-in-Damage c = c.loop-header.invariant.0

pub returns-in-Damage : goal.returns-in-Damage
returns-in-Damage c =
    slot-damage _ _ _ _ _ _ _ _ c.loop-header.invariant.2 _ c.cut-s.ensures _ c.next.ensures c.in-Damage.is
