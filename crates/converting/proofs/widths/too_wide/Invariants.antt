-- `converting::widths::too_wide` meets its contract. The invariant: the other edition has room for each slot passed that the map names.
use mathlib.Core.Path.{◌≡◌}
use mathlib.Core.Bool.{false}
use Rattle.model.specs.Log.{views_of}
use Rattle.slot_map.specs.Bit.{named}
use Rattle.model.specs.Conversion.{slot_too_wide}
use Rattle.converting.proofs.widths.too_wide.Given as goal

abbrev pub invariant-loop-slot : goal.invariant-loop-slot
invariant-loop-slot l = slot_too_wide l.to (views_of l.source l.s) (named l.map) l.slot ≡ false
