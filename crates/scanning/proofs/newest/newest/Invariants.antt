-- `scanning::newest::newest` meets its contract. The invariant: this was seen in the slots passed that the map names.
use mathlib.Core.Path.{◌≡◌}
use Rattle.slot_map.specs.Bit.{named}
use Rattle.model.specs.Log.{views_of}
use Rattle.scanning.specs.SeeingLaws.{seen_below}
use Rattle.scanning.proofs.newest.newest.Given as goal

abbrev pub invariant-loop-slot : goal.invariant-loop-slot
invariant-loop-slot l = l.seen ≡ seen_below l.s l.key (views_of l.area l.s) (named l.map) l.slot
