-- `cleaning::bits::set_bit` meets its contract.
use mathlib.Core.Path.{ap}
use lib.ListN.{set}
use Rattle.cleaning.specs.Bits.{bit_word, bits_with}
use Rattle.cleaning.proofs.bits.set_bit.Goals as goal

pub returns : goal.returns
unfolding bits_with
returns g c = let a = c.args in ap (set a.bits.now (bit_word g.row.WORDS a.number)) c.with_slot.ensures
