-- `cleaning::outside::mark_key` meets its contract.
use mathlib.Core.Path.{sym, ◌∙◌}
use Rattle.cleaning.proofs.MarksLaws.{found-marks, free-keeps, full-keeps}
use Rattle.cleaning.proofs.outside.mark_key.Goals as goal

pub returns-in-At : goal.returns-in-At
returns-in-At c =
    found-marks _ _ _ _ _ _ (sym c.search.ensures ∙ c.in-At.is) c.mark.ensures

pub returns-in-Free : goal.returns-in-Free
returns-in-Free c = free-keeps _ _ _ _ _ (sym c.search.ensures ∙ c.in-Free.is)

pub returns-in-Full : goal.returns-in-Full
returns-in-Full c = full-keeps _ _ _ _ (sym c.search.ensures ∙ c.in-Full.is)
