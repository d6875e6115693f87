-- `kurdavel::kurdavel_recover` meets its contract.
use mathlib.Core.Path.{refl}
use Rattle.kurdavel.specs.Crossing.{words_after}
use Rattle.kurdavel.specs.CrossingLaws.{recover-short, recover-crossed, never-recovered}
use Rattle.kurdavel.proofs.kurdavel_recover.Goals as goal

pub returns-then-short : goal.returns-then-short
returns-then-short c = recover-short c.if-short.true

pub returns-in-Err : goal.returns-in-Err
unfolding words_after
returns-in-Err c = recover-crossed c.if-short.false c.recover-found.ensures c.in-Err.is c.number.ensures refl (λ e. never-recovered e)

pub returns-in-Ok : goal.returns-in-Ok
unfolding words_after
returns-in-Ok c = recover-crossed c.if-short.false c.recover-found.ensures c.in-Ok.is refl c.encode.ensures.put (λ e. c.encode.ensures.long)
