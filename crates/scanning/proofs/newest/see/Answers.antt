-- `scanning::newest::see` meets its contract.
use Rattle.scanning.specs.SeeingLaws.{key-test, version-test, with-other, with-newer, with-older}
use Rattle.scanning.proofs.newest.see.Goals as goal

pub returns-then-ne : goal.returns-then-ne
returns-then-ne c = with-other _ _ _ _ _ (key-test _ _ c.ne.ensures c.if-ne.true)

pub returns-then-lt : goal.returns-then-lt
returns-then-lt c = with-newer _ _ _ _ _ (key-test _ _ c.ne.ensures c.if-ne.false) (version-test _ _ c.lt.ensures c.if-lt.true)

pub returns : goal.returns
returns c = with-older _ _ _ _ _ (key-test _ _ c.ne.ensures c.if-ne.false) (version-test _ _ c.lt.ensures c.if-lt.false)
