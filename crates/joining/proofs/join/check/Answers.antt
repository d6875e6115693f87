-- `joining::join::check` meets its contract.
use mathlib.Core.Path.{ap}
use mathlib.Core.Bool.{not}
use Rattle.joining.specs.JoinLaws.{check-bad, check-rest}
use Rattle.joining.proofs.join.check.Goals as goal

pub returns-then-not-fits_lent : goal.returns-then-not-fits_lent
returns-then-not-fits_lent c = check-bad _ _ (record { area = c.args.area; index = c.args.index; work = 0 }) c.fits_lent.ensures (ap not c.if-not-fits_lent.true)

pub returns : goal.returns
returns c = check-rest _ _ (record { area = c.args.area; index = c.args.index; work = 0 }) c.fits_lent.ensures (ap not c.if-not-fits_lent.false) c.check_idle.ensures
