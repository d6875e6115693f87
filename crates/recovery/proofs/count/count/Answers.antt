use mathlib.Core.Path.{sym}
use native.Mathlib.Omega.{arith}
use Rattle.recovery.proofs.CountLaws.{count-starts, count_turn, count-ends}
use Rattle.recovery.proofs.count.count.Goals as goal

pub loop-cell-init : goal.loop-cell-init
loop-cell-init c = count-starts _ _ _

pub slice_bounds-count_cell-end : goal.slice_bounds-count_cell-end
slice_bounds-count_cell-end c = sym c.loop-cell.invariant.size

pub count_cell-requires : goal.count_cell-requires
count_cell-requires c =
    let l = c.loop-cell in
    (c.requires.0, λ j. omega (arith, l.invariant.low j, c.requires.1))

pub loop-cell-preserved : goal.loop-cell-preserved
loop-cell-preserved c =
    count_turn _ _ _ _ _ _ c.loop-cell-test.true c.loop-cell.invariant c.count_cell.ensures

pub returns : goal.returns
returns c = count-ends _ _ _ _ _ c.loop-cell-test.false c.loop-cell.invariant
