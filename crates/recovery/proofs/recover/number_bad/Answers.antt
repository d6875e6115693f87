-- `recovery::recover::number_bad` meets its contract.
use mathlib.Core.Path.{refl}
use borrow.Author.Tests.{eq-eqb, ne_eqb}
use Rattle.recovery.proofs.CheckLaws.{holds, passed}
use Rattle.recovery.proofs.recover.number_bad.Goals as goal

pub returns-then-number-eq0 : goal.returns-then-number-eq0
returns-then-number-eq0 c = holds _ refl (eq-eqb _ 0 c.if-number-eq0.true)

pub returns : goal.returns
returns c = passed _ refl (ne_eqb _ 0 c.if-number-eq0.false) c.shared_number.ensures
