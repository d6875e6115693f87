-- `kurdavel::kurdavel_join` meets its contract.
use mathlib.Core.Path.{refl}
use Rattle.kurdavel.specs.Joining.{join-crossed}
use Rattle.kurdavel.proofs.kurdavel_join.Goals as goal

pub returns-in-Err : goal.returns-in-Err
returns-in-Err c =
    join-crossed c.decode-decoded.ensures c.join-joined.ensures c.in-Err.is c.number.ensures refl refl

pub returns-in-Ok : goal.returns-in-Ok
returns-in-Ok c =
    join-crossed c.decode-decoded.ensures c.join-joined.ensures c.in-Ok.is refl refl refl
