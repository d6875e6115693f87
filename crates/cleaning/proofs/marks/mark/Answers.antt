-- `cleaning::marks::mark` meets its contract.
use Rattle.cleaning.specs.Marks.{marked_with}
use Rattle.cleaning.proofs.marks.mark.Goals as goal

pub returns : goal.returns
unfolding marked_with
returns c = c.set_bit.ensures
