-- `writing::full::check_full` meets its contract.
use mathlib.Core.Bool.{not}
use mathlib.Core.Path.{ap}
use borrow.Author.Tests.{eq-eqb, ne_eqb}
use Rattle.writing.specs.TestLaws.{full-long, full-spent, full-left}
use Rattle.writing.proofs.full.check_full.Goals as goal

pub returns-then-not-fits : goal.returns-then-not-fits
returns-then-not-fits c = full-long c.args.rec c.args.fits (ap not c.if-not-fits.true)

pub returns-then-spent : goal.returns-then-spent
returns-then-spent c = full-spent c.args.rec c.args.fits (ap not c.if-not-fits.false) (eq-eqb _ _ c.if-spent.true)

pub returns : goal.returns
returns c = full-left c.args.rec c.args.fits (ap not c.if-not-fits.false) (ne_eqb _ _ c.if-spent.false)
