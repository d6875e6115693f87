-- `writing::causes::fits_head` meets its contract.
use Prim.Native.Nat.{◌+◌}
use borrow.Author.Tests.{le-leb, lt-leb}
use Rattle.segment.specs.Choice.{both}
use Rattle.writing.proofs.causes.fits_head.Goals as goal

pub returns-then-rec-length : goal.returns-then-rec-length
unfolding both
returns-then-rec-length c =
    let a = c.args in
    rw (le-leb (a.rec.end + a.length) a.rec.size c.if-rec-length.true, c.version_limit.ensures)

pub returns-else-rec-length : goal.returns-else-rec-length
unfolding both
returns-else-rec-length c =
    let a = c.args in
    rw (lt-leb (a.rec.end + a.length) a.rec.size c.if-rec-length.false)
