-- `position::is_count` meets its contract.
use mathlib.Core.Path.{◌∙◌}
use native.Mathlib.Omega.{arith}
use Rattle.position.specs.TestLaws.{count-above, count-below}
use Rattle.position.proofs.is_count.Goals as goal

pub returns-then-bits-gt-HIGHEST_FLOAT : goal.returns-then-bits-gt-HIGHEST_FLOAT
returns-then-bits-gt-HIGHEST_FLOAT c = count-above c.args.bits (omega arith)

pub returns : goal.returns
returns c = c.is_whole.ensures ∙ count-below c.args.bits (omega arith)
