-- `slot_map::with_slot` meets its contract.
use mathlib.Core.Path.{ap, ◌∙◌}
use lib.Bits.{bit_or}
use Rattle.slot_map.proofs.Words.{own-bit, or-own}
use Rattle.slot_map.proofs.with_slot.Goals as goal

pub returns : goal.returns
returns c = ap (bit_or c.args.map) (own-bit 32 c.args.i c.requires) ∙ or-own c.args.map c.args.i
