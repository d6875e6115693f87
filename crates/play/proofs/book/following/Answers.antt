-- `following` meets its contract. The limit is that of edition 1.
use Rattle.segment.specs.Layout.{table}
use Rattle.play.specs.Book.{following-limit, following-next}
use Rattle.play.proofs.book.following.Goals as goal

pub returns-then-limit-version : goal.returns-then-limit-version
unfolding table
returns-then-limit-version c = following-limit c.args.version _ c.version_limit-limit.ensures c.if-limit-version.true

pub returns : goal.returns
unfolding table
returns c = following-next c.args.version _ c.version_limit-limit.ensures c.if-limit-version.false
