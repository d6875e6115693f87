use mathlib.Core.Path.{refl}
use native.Mathlib.Omega.{arith}
use Rattle.text.specs.Spelled.{spelling-starts, spelling-turn, spelling-ends}
use Rattle.text.proofs.spell.Goals as goal

pub loop-rest-init : goal.loop-rest-init
loop-rest-init c = spelling-starts c.args.n _ (omega arith) refl

pub overflow_sub-from : goal.overflow_sub-from
overflow_sub-from c = (spelling-turn _ _ _ c.loop-rest-test.true _ c.loop-rest.invariant).0

pub loop-rest-preserved : goal.loop-rest-preserved
loop-rest-preserved c = (spelling-turn _ _ _ c.loop-rest-test.true _ c.loop-rest.invariant).1

pub returns : goal.returns
returns c = spelling-ends _ _ _ _ c.loop-rest.invariant c.loop-rest-test.false
