-- `joining::join::join` meets its contract.
use mathlib.Core.Path.{sym, ◌∙◌}
use native.Mathlib.Omega.{arith}
use Rattle.joining.specs.JoinLaws.{fits-notes, join-refused, join-pair, join-none, pair-below}
use Rattle.joining.proofs.join.join.Goals as goal

pub choose-requires : goal.choose-requires
choose-requires c = fits-notes _ _ _ _ (sym c.in-Ok.is ∙ c.check.ensures) _ c.split_of.ensures

pub overflow_cast-result : goal.overflow_cast-result
overflow_cast-result c = omega (arith, pair-below _ _ _ _ (sym c.in-Ok.is ∙ c.check.ensures) _ c.new_edition-into.ensures _ c.split_of.ensures _ c.choose.ensures _ _ c.in-Some.is)

pub overflow_cast-result-in-Some : goal.overflow_cast-result-in-Some
overflow_cast-result-in-Some c = omega (arith, pair-below _ _ _ _ (sym c.in-Ok.is ∙ c.check.ensures) _ c.new_edition-into.ensures _ c.split_of.ensures _ c.choose.ensures _ _ c.in-Some.is)

pub returns-in-Err : goal.returns-in-Err
returns-in-Err c = join-refused _ _ _ _ _ (sym c.in-Err.is ∙ c.check.ensures)

pub returns-in-Some : goal.returns-in-Some
returns-in-Some c = join-pair _ _ _ _ (sym c.in-Ok.is ∙ c.check.ensures) _ c.new_edition-into.ensures _ c.split_of.ensures _ c.choose.ensures _ _ c.in-Some.is

pub returns-in-None : goal.returns-in-None
returns-in-None c = join-none _ _ _ _ (sym c.in-Ok.is ∙ c.check.ensures) _ c.new_edition-into.ensures _ c.split_of.ensures _ c.choose.ensures c.in-None.is
