use Rattle.histories.specs.Numbered.{legal-turn, legal-not, legal-end}
use Rattle.histories.proofs.WordNumber.is_legal.Goals as goal

pub returns-then-not-allows : goal.returns-then-not-allows
returns-then-not-allows c = legal-not _ _ _ _ _ c.in-Some.ensures.steps c.loop-letter.invariant _ c.allows.ensures c.if-not-allows.true

pub loop-letter-preserved : goal.loop-letter-preserved
loop-letter-preserved c = legal-turn _ _ _ _ _ c.in-Some.ensures.steps c.loop-letter.invariant _ _ c.allows.ensures c.if-not-allows.false c.after-present.ensures

pub returns : goal.returns
returns c = legal-end _ _ _ c.in-None.ensures.steps.0 c.loop-letter.invariant
