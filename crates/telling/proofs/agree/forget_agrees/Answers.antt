-- `telling::agree::forget_agrees` meets its contract.
use mathlib.Core.Path.{sym, ◌∙◌}
use borrow.Author.Tests.{ltb-true, ltb-false}
use Rattle.telling.proofs.AgreeLaws.{forget-spent, forget-rest}
use Rattle.telling.proofs.agree.forget_agrees.Goals as goal

pub returns-then-not-version_left : goal.returns-then-not-version_left
returns-then-not-version_left c = forget-spent _ _ _ _ (ltb-false _ _ (sym c.version_left.ensures ∙ c.if-not-version_left.true))

pub returns : goal.returns
returns c =
    forget-rest _ _ _ _ (ltb-true _ _ (sym c.version_left.ensures ∙ c.if-not-version_left.false))
    c.victims_agree.ensures
