use Rattle.converting.specs.RewriteLaws.{clear-start, clear-turn, clear-end}
use Rattle.converting.proofs.rewrite.clear.Goals as goal

pub loop-at-init : goal.loop-at-init
loop-at-init c = clear-start c.requires.0

pub loop-at-preserved : goal.loop-at-preserved
loop-at-preserved c = clear-turn c.loop-at.invariant c.loop-at-test.true

pub returns : goal.returns
returns c = clear-end c.loop-at.invariant c.loop-at-test.false
