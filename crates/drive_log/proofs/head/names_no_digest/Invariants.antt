-- `drive_log::head::names_no_digest` meets its contract. The invariant: each slot passed that the map names has a digest.
use mathlib.Core.Path.{◌≡◌}
use mathlib.Core.Bool.{false}
use Rattle.model.specs.Log.{views_of}
use Rattle.model.specs.Recovery.{names_no_digest}
use Rattle.slot_map.specs.Bit.{named}
use Rattle.drive_log.proofs.head.names_no_digest.Given as goal

abbrev pub invariant-loop-slot : goal.invariant-loop-slot
invariant-loop-slot l = (names_no_digest (views_of l.area l.s) (named l.map) l.slot ≡ false)
