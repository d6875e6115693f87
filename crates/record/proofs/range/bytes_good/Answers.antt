-- `record::range::bytes_good` meets its contract: the constant is the length of the first edition's digest.
use native.Mathlib.Omega.{arith}
use Rattle.segment.specs.Layout.{table}
use Rattle.record.proofs.range.bytes_good.Goals as goal

pub overflow_sub-rec : goal.overflow_sub-rec
overflow_sub-rec c = omega arith

pub returns : goal.returns
unfolding table
returns c = c.counts_good.ensures
