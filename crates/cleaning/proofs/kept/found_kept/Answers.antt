-- `cleaning::kept::found_kept` meets its contract.
use borrow.Author.Tests.{not-true, not-false}
use Rattle.cleaning.proofs.KeptLaws.{found-older, found-object, found-tombstone, found_free, found_full}
use Rattle.cleaning.proofs.kept.found_kept.Goals as goal

pub returns-then-cells-i : goal.returns-then-cells-i
returns-then-cells-i c = found-older _ _ _ _ _ _ c.in-At.is c.if-cells-i.true

pub returns-then-not-header : goal.returns-then-not-header
returns-then-not-header c =
    found-object _ _ _ _ _ _ c.in-At.is c.if-cells-i.false (not-true _ c.if-not-header.true)

pub returns-else-not-header : goal.returns-else-not-header
returns-else-not-header c =
    found-tombstone _ _ _ _ _ _ c.in-At.is c.if-cells-i.false
    (not-false _ c.if-not-header.false) c.is_marked.ensures

pub returns-in-Free : goal.returns-in-Free
returns-in-Free c = found_free _ _ _ _ _ _ c.in-Free.is

pub returns-in-Full : goal.returns-in-Full
returns-in-Full c = found_full _ _ _ _ _ c.in-Full.is
