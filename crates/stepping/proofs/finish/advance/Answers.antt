-- `stepping::finish::advance` meets its contract.
use Rattle.stepping.proofs.FinishLaws.{advance-left, advance-last}
use Rattle.stepping.proofs.finish.advance.Goals as goal

pub returns-then-left-gt1 : goal.returns-then-left-gt1
returns-then-left-gt1 c = advance-left _ _ _ _ c.stores_left-left.ensures c.if-left-gt1.true c.one_less-rest.ensures c.with_pending.ensures

pub returns : goal.returns
returns c = advance-last _ _ _ _ c.stores_left-left.ensures c.if-left-gt1.false c.finish.ensures
