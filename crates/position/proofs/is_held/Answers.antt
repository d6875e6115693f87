-- `position::is_held` meets its contract.
use native.Mathlib.Omega.{arith}
use Rattle.position.specs.TestLaws.{held-above, held_low, held_two, held-four}
use Rattle.position.proofs.is_held.Goals as goal

pub returns-then-count-gt-HIGHEST_COUNT : goal.returns-then-count-gt-HIGHEST_COUNT
returns-then-count-gt-HIGHEST_COUNT c = held-above c.args.count (omega arith)

pub returns-then-count-lt16777216 : goal.returns-then-count-lt16777216
returns-then-count-lt16777216 c = held_low c.args.count (omega arith)

pub returns-then-count-lt33554432 : goal.returns-then-count-lt33554432
returns-then-count-lt33554432 c = held_two c.args.count (omega arith) (omega arith)

pub returns : goal.returns
returns c = held-four c.args.count (omega arith) (omega arith)
