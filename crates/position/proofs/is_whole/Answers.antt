-- `position::is_whole` meets its contract.
use Prim.Native.Nat.{◌/◌}
use native.Mathlib.Omega.{arith}
use Rattle.position.specs.TestLaws.{whole-high, whole-low, whole-middle, one-moved}
use Rattle.position.proofs.is_whole.Goals as goal

pub returns-then-field-ge-LOWEST_IS_ONE : goal.returns-then-field-ge-LOWEST_IS_ONE
returns-then-field-ge-LOWEST_IS_ONE c = whole-high c.args.bits (omega arith) (omega arith)

pub returns-then-field-lt-HIGHEST_IS_ONE : goal.returns-then-field-lt-HIGHEST_IS_ONE
returns-then-field-lt-HIGHEST_IS_ONE c = whole-low c.args.bits (omega arith) (omega arith)

pub returns : goal.returns
returns c = rw (one-moved (c.args.bits / 8388608) (omega arith) (omega arith)) (whole-middle c.args.bits (omega arith) (omega arith) (omega arith))
