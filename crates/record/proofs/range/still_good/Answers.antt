-- `record::range::still_good` meets its contract.
use mathlib.Core.Path.{refl}
use Rattle.record.specs.RangeLaws.{ends, goes}
use Rattle.record.proofs.range.still_good.Goals as goal

pub returns-then-good : goal.returns-then-good
returns-then-good c = goes _ refl c.if-good.true refl

pub returns-else-good : goal.returns-else-good
returns-else-good c = ends _ refl c.if-good.false
