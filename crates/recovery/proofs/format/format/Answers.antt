-- `recovery::format::format` meets its contract: the number names one of the two editions, or none.
use Rattle.segment.specs.Layout.{number_of_layout}
use Rattle.recovery.proofs.FormatLaws.{format-unknown}
use Rattle.recovery.proofs.format.format.Goals as goal

pub returns-then-edition-eq1 : goal.returns-then-edition-eq1
unfolding number_of_layout
returns-then-edition-eq1 c =
    rw c.if-edition-eq1.true c.format_as.ensures

pub returns-then-edition-eq2 : goal.returns-then-edition-eq2
unfolding number_of_layout
returns-then-edition-eq2 c =
    rw c.if-edition-eq2.true c.format_as-then-edition-eq2.ensures

pub returns : goal.returns
returns c =
    format-unknown _ _ _ _ c.if-edition-eq1.false c.if-edition-eq2.false
