-- `cleaning::chosen::choose` meets its contract.
use Rattle.cleaning.specs.Chosen.{chosen_with}
use Rattle.cleaning.proofs.chosen.choose.Goals as goal

pub returns : goal.returns
unfolding chosen_with
returns c = c.set_bit.ensures
