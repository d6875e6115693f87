-- `slot_map::leaves_free` meets its contract.
use Rattle.slot_map.proofs.Words.{leaves_free}
use Rattle.slot_map.proofs.leaves_free.Goals as goal

pub returns : goal.returns
returns c = leaves_free 32 c.args.n c.args.map c.requires.1
