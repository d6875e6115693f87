-- `kurdavel::convert::kurdavel_convert` meets its contract.
use mathlib.Core.Path.{refl}
use Rattle.kurdavel.specs.CrossingLaws.{convert-crossed}
use Rattle.kurdavel.proofs.convert.kurdavel_convert.Goals as goal

pub returns-in-Ok : goal.returns-in-Ok
returns-in-Ok c = convert-crossed c.convert.ensures c.in-Ok.is refl

pub returns-in-Err : goal.returns-in-Err
returns-in-Err c = convert-crossed c.convert.ensures c.in-Err.is c.number.ensures
