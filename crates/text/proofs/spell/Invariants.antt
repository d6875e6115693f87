-- `text::spell` meets its contract. The invariant: the digits of what is left of the number, with those that stand behind
-- them, are the number's.
use Rattle.text.specs.Spelled.{PartSpelled}
use Rattle.text.proofs.spell.Given as goal

abbrev pub invariant-loop-rest : goal.invariant-loop-rest
invariant-loop-rest l = PartSpelled l.n l.bytes l.from l.rest

abbrev pub decreases-loop-rest : goal.decreases-loop-rest
decreases-loop-rest l = l.rest
