-- `cleaning::bits::has_bit` meets its contract.
use Rattle.cleaning.specs.Bits.{has_bit}
use Rattle.cleaning.proofs.bits.has_bit.Goals as goal

pub returns : goal.returns
unfolding has_bit
returns g c = c.has_slot.ensures
