-- `cleaning::chosen::is_chosen` meets its contract.
use Rattle.cleaning.specs.Chosen.{is_chosen}
use Rattle.cleaning.proofs.chosen.is_chosen.Goals as goal

pub returns : goal.returns
unfolding is_chosen
returns c = c.has_bit.ensures
