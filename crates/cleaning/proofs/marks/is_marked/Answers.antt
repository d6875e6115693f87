-- `cleaning::marks::is_marked` meets its contract.
use Rattle.cleaning.specs.Marks.{is_marked}
use Rattle.cleaning.proofs.marks.is_marked.Goals as goal

pub returns : goal.returns
unfolding is_marked
returns c = c.has_bit.ensures
