-- `text::put_number` meets its contract.
use mathlib.Core.Path.{ap}
use native.Mathlib.Omega.{arith}
use lib.ListN.{length}
use Rattle.text.specs.Put.{put_same}
use Rattle.text.specs.Spelled.{spelled-part}
use Rattle.text.proofs.put_number.Goals as goal

pub put-requires : goal.put-requires
put-requires c =
    omega (arith, c.requires, ap length (spelled-part c.spell-from.ensures))

pub returns : goal.returns
returns c = put_same (spelled-part c.spell-from.ensures) c.put.ensures
