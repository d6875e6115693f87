-- `words::zeros` meets its contract.
use Rattle.words.proofs.WordLaws.{zeros-on, zeros-off}
use Rattle.words.proofs.zeros.Goals as goal

pub returns-then-a-eq0 : goal.returns-then-a-eq0
returns-then-a-eq0 c = zeros-on _ _ c.if-a-eq0.true

pub returns-else-a-eq0 : goal.returns-else-a-eq0
returns-else-a-eq0 c = zeros-off _ _ c.if-a-eq0.false
