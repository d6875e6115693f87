-- `telling::agree::victims_agree` meets its contract.
use native.Mathlib.Omega.{arith}
use Rattle.telling.proofs.AgreeLaws.{victims-short, victims-none, victims-rest}
use Rattle.telling.proofs.agree.victims_agree.Goals as goal

pub returns-then-count-digest_size : goal.returns-then-count-digest_size
returns-then-count-digest_size c = victims-short _ _ _ _ (omega (arith, c.digest_size.ensures, c.if-count-digest_size.true))

pub returns-then-victims-eq0 : goal.returns-then-victims-eq0
returns-then-victims-eq0 c = victims-none _ _ _ _ c.if-victims-eq0.true

pub returns : goal.returns
returns c =
    victims-rest _ _ _ _ (omega (arith, c.digest_size.ensures, c.if-count-digest_size.false)) c.if-victims-eq0.false
    c.is_within.ensures
