-- `record::range::front_good` meets its contract.
use mathlib.Core.Path.{sym, ◌∙◌}
use native.Mathlib.Omega.{arith}
use Rattle.record.specs.RangeLaws.{front-numbers, numbers-limits, ends, goes}
use Rattle.record.proofs.range.front_good.Goals as goal

pub left_good-requires : goal.left_good-requires
left_good-requires c = omega (arith, numbers-limits _ _ (sym c.numbers_good.ensures ∙ c.if-numbers_good.true))

pub returns-then-numbers_good : goal.returns-then-numbers_good
returns-then-numbers_good c = goes _ c.numbers_good.ensures c.if-numbers_good.true c.left_good.ensures ∙ sym (front-numbers _ _)

pub returns-else-numbers_good : goal.returns-else-numbers_good
returns-else-numbers_good c = ends _ c.numbers_good.ensures c.if-numbers_good.false ∙ sym (front-numbers _ _)
