-- `kurdavel::hand_back` meets its contract.
use mathlib.Core.Path.{refl}
use Rattle.kurdavel.specs.Crossing.{stores_after}
use Rattle.kurdavel.specs.CrossingLaws.{handed}
use Rattle.kurdavel.proofs.hand_back.Goals as goal

pub returns-in-Err : goal.returns-in-Err
unfolding stores_after
returns-in-Err c = handed (c.keep.ensures.kept, c.keep.ensures.long) c.in-Err.is c.number.ensures refl

pub returns-in-Ok : goal.returns-in-Ok
unfolding stores_after
returns-in-Ok c = handed (c.keep.ensures.kept, c.keep.ensures.long) c.in-Ok.is refl refl
