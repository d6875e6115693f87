-- `recovery::format::geometry_bad` meets its contract: a law for each return, at the tests that led there.
use mathlib.Core.Path.{sym, ◌∙◌}
use borrow.Author.Rules.{rules}
use Rattle.word.specs.Laws.{product_lt}
use Rattle.recovery.proofs.FormatLaws.{geometry-slots, geometry-size, geometry-area}
use Rattle.recovery.proofs.format.geometry_bad.Goals as goal

pub returns-then-not-slots_good : goal.returns-then-not-slots_good
returns-then-not-slots_good c = sym (geometry-slots _ _ _ (sym c.slots_good.ensures ∙ c.if-not-slots_good.true))

pub returns-then-not-size_good : goal.returns-then-not-size_good
returns-then-not-size_good c =
    sym
    (geometry-size _ _ _ (sym c.slots_good.ensures ∙ c.if-not-slots_good.false)
    (sym c.size_good.ensures ∙ c.if-not-size_good.true))

pub overflow_mul-result : goal.overflow_mul-result
overflow_mul-result c = search (product_lt, rules)

pub returns : goal.returns
returns c =
    sym
    (geometry-area _ _ _ (sym c.slots_good.ensures ∙ c.if-not-slots_good.false)
    (sym c.size_good.ensures ∙ c.if-not-size_good.false))
