-- `writing::lay::lay_append` meets its contract.
use Prim.Native.Nat.{◌+◌, ◌≤◌}
use mathlib.Core.Path.{◌≡◌, refl}
use native.Mathlib.Omega.{arith}
use lib.ListN.{length}
use borrow.Author.Tests.{leb-true}
use Rattle.segment.proofs.Choice.{both_left}
use Rattle.segment.specs.Layout.{entry_size}
use Rattle.starting.specs.Stores.{stores-most}
use Rattle.writing.specs.Laying.{append-said}
use Rattle.writing.proofs.lay.lay_append.Goals as goal
use Rattle.writing.proofs.lay.lay_append.Goals.{After-head_size, Start}

-- the length of the entry
sized : (c : After-head_size) →
    let a = c.args in c.head_size.result + length a.value.now ≡ entry_size a.rec.edition (length a.value.now)
sized c = omega (arith, c.head_size.ensures)

-- which fits the head
fit : (c : Start) →
    let a = c.args in a.rec.end + entry_size a.rec.edition (length a.value.now) ≤ a.rec.size
fit c =
    let a = c.args in
    leb-true (a.rec.end + entry_size a.rec.edition (length a.value.now)) a.rec.size (both_left _ _ c.requires.value_value)

pub commit_stores-left-requires : goal.commit_stores-left-requires
commit_stores-left-requires c =
    omega (arith, fit (goal.at.commit_stores-left-requires c).Start, sized (goal.at.commit_stores-left-requires c).After-head_size)

pub overflow_cast-left : goal.overflow_cast-left
overflow_cast-left c =
    let most = stores-most _ _ _ c.commit_stores-left.ensures in
    omega (arith, c.requires.entry_ready.room, sized (goal.at.overflow_cast-left c).After-head_size)

pub returns : goal.returns
returns c =
    append-said _ _ _ _ _ c.requires.kind_value _ (sized (goal.at.returns c).After-head_size) _ _ _ _ refl c.commit_stores-left.ensures c.write_entry.ensures
