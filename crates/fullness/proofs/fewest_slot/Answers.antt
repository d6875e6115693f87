use native.Mathlib.Omega.{arith}
use Rattle.fullness.specs.FewestLaws.{held_first, held-again, held-last}
use Rattle.fullness.proofs.fewest_slot.Goals as goal

pub loop-i-init : goal.loop-i-init
loop-i-init c = held_first c.requires.3 (omega arith)

pub loop-i-preserved : goal.loop-i-preserved
loop-i-preserved c = held-again _ _ _ _ _ _ c.loop-i-test.true (omega arith) c.loop-i.invariant c.fewer_of-held.ensures

pub returns : goal.returns
returns c = held-last _ _ _ _ _ c.loop-i-test.false c.loop-i.invariant
