-- `converting::sizes::too_long` meets its contract. The invariant: each slot passed that the map names fits.
use mathlib.Core.Path.{◌≡◌}
use mathlib.Core.Bool.{false}
use Rattle.model.specs.Log.{views_of}
use Rattle.slot_map.specs.Bit.{named}
use Rattle.model.specs.Conversion.{slot_too_long}
use Rattle.converting.proofs.sizes.too_long.Given as goal

abbrev pub invariant-loop-slot : goal.invariant-loop-slot
invariant-loop-slot l = slot_too_long l.to (views_of l.source l.s) (named l.map) l.s l.slot ≡ false
