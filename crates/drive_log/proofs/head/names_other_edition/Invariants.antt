-- `drive_log::head::names_other_edition` meets its contract. The invariant: each slot passed that the map names is of the edition.
use mathlib.Core.Path.{◌≡◌}
use mathlib.Core.Bool.{false}
use Rattle.model.specs.Log.{views_of}
use Rattle.model.specs.Recovery.{other_edition}
use Rattle.slot_map.specs.Bit.{named}
use Rattle.drive_log.proofs.head.names_other_edition.Given as goal

abbrev pub invariant-loop-slot : goal.invariant-loop-slot
invariant-loop-slot l = (other_edition l.edition (views_of l.area l.s) (named l.map) l.slot ≡ false)
