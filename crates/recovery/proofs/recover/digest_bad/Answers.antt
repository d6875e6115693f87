-- `recovery::recover::digest_bad` meets its contract: either of two tests is enough.
use mathlib.Core.Path.{refl}
use Rattle.recovery.proofs.CheckLaws.{holds, passed}
use Rattle.recovery.proofs.recover.digest_bad.Goals as goal

pub returns-then-number_bad : goal.returns-then-number_bad
returns-then-number_bad c = holds _ c.number_bad.ensures c.if-number_bad.true

pub returns : goal.returns
returns c = passed _ c.number_bad.ensures c.if-number_bad.false refl
