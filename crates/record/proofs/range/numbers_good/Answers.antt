-- `record::range::numbers_good` meets its contract.
use mathlib.Core.Path.{ap}
use mathlib.Core.Bool.{not}
use mathlib.Core.Path.{sym, ◌∙◌}
use native.Mathlib.Omega.{arith}
use Rattle.record.specs.RangeLaws.{Limits, limits, numbers_good, stop, go, ends, goes}
use Rattle.record.proofs.range.numbers_good.Goals as goal
use Rattle.record.proofs.range.numbers_good.Goals.{Else-not-limits_good}

-- what is known once the limits are passed
within : (c : Else-not-limits_good) → Limits c.args.rec
within c = limits c.args.rec (sym c.limits_good.ensures ∙ c.if-not-limits_good.false)

pub returns-then-not-limits_good : goal.returns-then-not-limits_good
unfolding numbers_good
returns-then-not-limits_good c = stop _ c.limits_good.ensures (ap not c.if-not-limits_good.true)

pub map_good-requires : goal.map_good-requires
map_good-requires c = omega (arith, within c)

pub counters_good-requires : goal.counters_good-requires
counters_good-requires c = omega (arith, within (goal.at.counters_good-requires c).Else-not-limits_good)

pub returns-then-map_good : goal.returns-then-map_good
unfolding numbers_good
returns-then-map_good c =
    go _ c.limits_good.ensures (ap not c.if-not-limits_good.false)
    (goes _ c.map_good.ensures c.if-map_good.true c.counters_good.ensures)

pub returns-else-map_good : goal.returns-else-map_good
unfolding numbers_good
returns-else-map_good c =
    go _ c.limits_good.ensures (ap not c.if-not-limits_good.false) (ends _ c.map_good.ensures c.if-map_good.false)
