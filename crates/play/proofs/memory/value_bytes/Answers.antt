-- `value_bytes` meets its contract.
use Rattle.std.proofs.Common.{◌∙◌, refl, arith, length-set}
use Rattle.play.specs.Values.{filled-turn, filled-end}
use Rattle.play.proofs.memory.value_bytes.Goals as goal

pub loop-place-preserved : goal.loop-place-preserved
loop-place-preserved c = (
  length-set c.loop-place.place-items c.loop-place.place-index c.loop-place.byte ∙ c.loop-place.invariant.0,
  filled-turn _ _ _ 120 _ _ (omega (arith, c.loop-place-test.true, c.loop-place.invariant.0)) (omega (arith, c.loop-place.invariant.0)) c.loop-place.invariant.1 _ refl,
)

pub returns : goal.returns
returns c = filled-end _ _ _ 120 _ _ c.loop-place.invariant.0 (omega (arith, c.loop-place-test.false, c.loop-place.invariant.0)) c.loop-place.invariant.1
