-- `position::refused` meets its contract.
use mathlib.Core.Path.{refl}
use Rattle.position.specs.Convert.{outcome}
use Rattle.position.proofs.refused.Goals as goal

pub returns : goal.returns
unfolding outcome
returns c = refl
