use mathlib.Core.Path.{sym, ◌∙◌}
use Rattle.word.specs.Laws.{fnv_from-turn, fnv_from-end}
use Rattle.word.proofs.fnv.hash_on.Goals as goal

pub loop-b-preserved : goal.loop-b-preserved
loop-b-preserved c =
    rw c.step-h.ensures (sym (fnv_from-turn _ _ _ c.loop-b-test.true) ∙ c.loop-b.invariant)

pub returns : goal.returns
returns c = sym (fnv_from-end _ _ _ c.loop-b-test.false) ∙ c.loop-b.invariant
