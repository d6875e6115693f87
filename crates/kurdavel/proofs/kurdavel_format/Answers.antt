-- `kurdavel::kurdavel_format` meets its contract.
use mathlib.Core.Path.{refl}
use Rattle.kurdavel.specs.CrossingLaws.{format-crossed}
use Rattle.kurdavel.proofs.kurdavel_format.Goals as goal

pub returns-in-Ok : goal.returns-in-Ok
returns-in-Ok c = format-crossed c.format.ensures c.in-Ok.is refl

pub returns-in-Err : goal.returns-in-Err
returns-in-Err c = format-crossed c.format.ensures c.in-Err.is c.number.ensures
