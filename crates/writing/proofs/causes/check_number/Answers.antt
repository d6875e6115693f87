-- `writing::causes::check_number` meets its contract.
use Rattle.writing.specs.TestLaws.{number_fits, number-spent, number-left}
use Rattle.writing.proofs.causes.check_number.Goals as goal

pub returns-then-fits_head : goal.returns-then-fits_head
returns-then-fits_head c = number_fits _ _ _ _ c.fits_head.ensures c.if-fits_head.true

pub returns-then-number : goal.returns-then-number
returns-then-number c = number-spent _ _ _ _ c.fits_head.ensures c.if-fits_head.false c.if-number.true

pub returns : goal.returns
returns c = number-left _ _ _ _ c.fits_head.ensures c.if-fits_head.false c.if-number.false
