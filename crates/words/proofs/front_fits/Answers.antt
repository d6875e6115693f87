-- `words::front_fits` meets its contract.
use mathlib.Core.Path.{sym, ◌∙◌}
use native.Mathlib.Omega.{arith}
use Rattle.record.specs.RangeLaws.{numbers-limits, ends, goes}
use Rattle.words.proofs.front_fits.Goals as goal

pub left_fits-requires : goal.left_fits-requires
left_fits-requires c = omega (arith, numbers-limits _ _ (sym c.numbers_good.ensures ∙ c.if-numbers_good.true))

pub returns-then-numbers_good : goal.returns-then-numbers_good
returns-then-numbers_good c = goes _ c.numbers_good.ensures c.if-numbers_good.true c.left_fits.ensures

pub returns-else-numbers_good : goal.returns-else-numbers_good
returns-else-numbers_good c = ends _ c.numbers_good.ensures c.if-numbers_good.false
