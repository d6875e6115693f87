-- `writing::causes::check_write` meets its contract.
use mathlib.Core.Path.{ap}
use mathlib.Core.Bool.{not}
use mathlib.Core.Path.{sym, ◌∙◌}
use lib.ListN.{length}
use Rattle.writing.specs.TestLaws.{first-bad, write-first}
use Rattle.writing.proofs.causes.check_write.Goals as goal

pub returns-then-not-fits_lent : goal.returns-then-not-fits_lent
returns-then-not-fits_lent c =
    let a = c.args in
    write-first _ _ _ _ _ _ _ _ (first-bad _ a.rec (record { area = length a.area.now; index = length a.index.now; work = a.work }) a.tables a.key c.fits_lent.ensures (ap not c.if-not-fits_lent.true))

pub check_fitting-requires : goal.check_fitting-requires
check_fitting-requires c = sym c.fits_lent.ensures ∙ c.if-not-fits_lent.false
