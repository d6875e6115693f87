use native.Mathlib.Omega.{arith}
use Rattle.report.specs.Inserting.{gather-starts}
use Rattle.report.proofs.Inserting.{gather-turn, gather-ends}
use Rattle.report.proofs.gather.gather.Goals as goal

pub loop-i-init : goal.loop-i-init
loop-i-init c = gather-starts _ _ _

pub add_cell-n-requires : goal.add_cell-n-requires
add_cell-n-requires c =
    let l = c.loop-i in
    omega (arith, l.invariant.few, l.auto.ranks, c.requires)

pub loop-i-preserved : goal.loop-i-preserved
loop-i-preserved c =
    let l = c.loop-i in
    gather-turn _ _ _ _ _ _ _ c.loop-i-test.true l.invariant c.add_cell-n.ensures

pub returns : goal.returns
returns c = gather-ends _ _ _ _ _ c.loop-i-test.false c.loop-i.invariant
