-- `writing::lay::lay_head` meets its contract.
use Prim.Native.Nat.{◌+◌}
use mathlib.Core.Path.{◌≡◌, refl, ap}
use native.Mathlib.Omega.{arith}
use lib.ListN.{length}
use lib.Seq.{length-sets}
use Rattle.segment.specs.Layout.{entry_size}
use Rattle.starting.specs.Stores.{head-most}
use Rattle.writing.specs.Laying.{ready-head, head-said}
use Rattle.writing.proofs.lay.lay_head.Goals as goal
use Rattle.writing.proofs.lay.lay_head.Goals.{After-head_size}

-- the length of the entry
sized : (c : After-head_size) →
    let a = c.args in c.head_size.result + length a.value.now ≡ entry_size a.into (length a.value.now)
sized c = omega (arith, c.head_size.ensures)

pub new_digest-requires : goal.new_digest-requires
new_digest-requires c =
    ready-head _ _ _ _ c.requires.entry_ready c.requires.number_left _ c.next_free-slot.ensures

pub write_entry-requires : goal.write_entry-requires
write_entry-requires c =
    omega (arith, c.requires.value_bound, c.requires.entry_ready.long, c.requires.entry_ready.lent.size_low, c.digest_size-start.ensures, simp length-sets at (ap length c.write_digest.ensures))

pub head_stores-left-requires : goal.head_stores-left-requires
head_stores-left-requires c =
    (omega (arith, c.requires.value_bound, c.requires.entry_ready.lent.size_low, c.digest_size-start.ensures, sized (goal.at.head_stores-left-requires c).After-head_size), c.requires.entry_ready.lent.size-high)

pub overflow_cast-left : goal.overflow_cast-left
overflow_cast-left c =
    let most = head-most _ _ c.head_stores-left.ensures in
    omega (arith, c.requires.value_bound, c.digest_size-start.ensures, sized (goal.at.overflow_cast-left c).After-head_size)

pub overflow_cast-length : goal.overflow_cast-length
overflow_cast-length c = omega (arith, c.requires.value_bound, c.digest_size-start.ensures, sized (goal.at.overflow_cast-length c).After-head_size)

pub returns : goal.returns
returns c =
    head-said _ _ _ _ _ c.requires.kind_value _ (sized (goal.at.returns c).After-head_size) _ _ _ c.digest_size-start.ensures _ _ _ _ _ refl c.next_free-slot.ensures c.new_digest.ensures c.write_digest.ensures
    c.write_entry.ensures c.head_stores-left.ensures
