-- `record::range::in_range` meets its contract.
use mathlib.Core.Path.{sym, ◌∙◌}
use native.Mathlib.Omega.{arith}
use Rattle.record.specs.RangeLaws.{front-limits, in-front, ends, goes}
use Rattle.record.proofs.range.in_range.Goals as goal

pub bytes_good-requires : goal.bytes_good-requires
bytes_good-requires c = omega (arith, front-limits _ _ (sym c.front_good.ensures ∙ c.if-front_good.true))

pub returns-then-front_good : goal.returns-then-front_good
returns-then-front_good c = goes _ c.front_good.ensures c.if-front_good.true c.bytes_good.ensures ∙ sym (in-front _ _)

pub returns-else-front_good : goal.returns-else-front_good
returns-else-front_good c = ends _ c.front_good.ensures c.if-front_good.false ∙ sym (in-front _ _)
