-- `position::hand_over` meets its contract.
use mathlib.Core.Path.{refl, ◌∙◌}
use Rattle.position.specs.Convert.{answer_said}
use Rattle.position.proofs.hand_over.Goals as goal

pub returns-in-Ok : goal.returns-in-Ok
unfolding answer_said
returns-in-Ok c = record { says = rw c.in-Ok.is; bytes = refl }

pub returns-in-Err : goal.returns-in-Err
unfolding answer_said
returns-in-Err c = record { says = c.number.ensures ∙ rw c.in-Err.is; bytes = refl }
