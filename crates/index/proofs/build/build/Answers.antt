-- `index::build::build` meets its contract.
use mathlib.Core.Path.{◌∙◌}
use Rattle.index.proofs.Turns.{built-keys, built-many}
use Rattle.index.proofs.build.build.Goals as goal

pub returns-in-Some : goal.returns-in-Some
returns-in-Some c =
    built-keys _ _ _ _ _ _ c.clear.ensures _ _ c.index_order.ensures _ c.in-Some.is

pub returns-in-None : goal.returns-in-None
returns-in-None c =
    built-many _ _ _ _ _ _ c.clear.ensures _ _ c.index_order.ensures c.in-None.is _ _ c.give_up.ensures
    (c.index_order.auto.cells ∙ c.clear.auto.cells)
