-- `record::range::fits_lent` meets its contract.
use mathlib.Core.Path.{sym, ◌∙◌}
use native.Mathlib.Omega.{arith}
use Rattle.record.specs.Range.{fits_lent}
use Rattle.record.specs.RangeLaws.{range-limits, ends, goes}
use Rattle.record.proofs.range.fits_lent.Goals as goal

pub lengths_own-requires : goal.lengths_own-requires
lengths_own-requires c = omega (arith, range-limits _ _ (sym c.in_range.ensures ∙ c.if-in_range.true))

pub returns-then-in_range : goal.returns-then-in_range
unfolding fits_lent
returns-then-in_range c = goes _ c.in_range.ensures c.if-in_range.true c.lengths_own.ensures

pub returns-else-in_range : goal.returns-else-in_range
unfolding fits_lent
returns-else-in_range c = ends _ c.in_range.ensures c.if-in_range.false
