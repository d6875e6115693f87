-- `cleaning::clean::begin` meets its contract.
use native.Mathlib.Omega.{arith}
use Rattle.starting.specs.Stores.{head-most}
use Rattle.starting.specs.NewHead.{head-ready}
use Rattle.cleaning.proofs.CleanLaws.{begun-filled}
use Rattle.cleaning.proofs.clean.begin.Goals as goal

pub new_digest-requires : goal.new_digest-requires
new_digest-requires c =
    let r = c.requires.clean_ready in
    head-ready _ _ _ _ r.lent _ r.all_named r.number-left _ c.next_free-slot.ensures

pub overflow_cast-left : goal.overflow_cast-left
overflow_cast-left c =
    let most = head-most _ _ c.head_stores-left.ensures in
    omega (arith, c.copy_kept-count.ensures.behind, c.requires.room.fits, c.requires.clean_ready.lent.size-high)

pub returns : goal.returns
returns c =
    begun-filled _ _ _ _ _ _ _ _ _ _ _ _ c.new_digest.ensures c.write_digest.ensures (rw c.digest_size.ensures at c.copy_kept-count.ensures)
    c.next_free-slot.ensures c.head_stores-left.ensures c.started.ensures
