use mathlib.Core.Path.{refl}
use native.Mathlib.Omega.{arith}
use lib.ListN.{length-set}
use Rattle.counting.specs.CountingLaws.{clear-start, clear-turn, clear-done}
use Rattle.counting.proofs.clear.Goals as goal

pub loop-i-init : goal.loop-i-init
loop-i-init c = (refl, clear-start _ _)

pub loop-i-preserved : goal.loop-i-preserved
loop-i-preserved c =
    let l = c.loop-i.invariant in
    (simp length-set l.0, clear-turn _ _ _ _ l.0 l.1 (omega (arith, c.loop-i-test.true, l.0)) _ c.unless_victim.ensures)

pub returns : goal.returns
returns c =
    let l = c.loop-i.invariant in
    clear-done _ _ _ _ l.0 l.1 (omega (arith, c.loop-i-test.false, l.0))
