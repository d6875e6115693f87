-- `cleaning::clean::victims_bad` meets its contract.
use Rattle.cleaning.proofs.CleanLaws.{no-victims, some-victims}
use Rattle.cleaning.proofs.clean.victims_bad.Goals as goal

pub returns-then-victims-eq0 : goal.returns-then-victims-eq0
returns-then-victims-eq0 c = no-victims c.args.rec _ c.if-victims-eq0.true

pub returns : goal.returns
returns c = some-victims c.args.rec _ c.if-victims-eq0.false _ c.is_within.ensures
