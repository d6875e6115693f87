-- `recovery::recover::next_version` meets its contract.
use Rattle.recovery.proofs.CheckLaws.{next-above, next-kept}
use borrow.Author.Rules.{rules}
use Rattle.recovery.proofs.recover.next_version.Goals as goal

pub returns-then-next-highest : goal.returns-then-next-highest
returns-then-next-highest c = search (next-above, rules)

pub returns : goal.returns
returns c = search (next-kept, rules)
