-- `drive_log::versions::search_shared` meets its contract. The invariant: the entries of the slots passed share no version but a suspect's, and their bits are set.
use mathlib.Core.Path.{◌≡◌}
use lib.ListN.{length}
use Rattle.slot_map.specs.Bit.{named}
use Rattle.model.specs.Log.{views_of, log_of}
use Rattle.drive_log.specs.Filter.{Filtered}
use Rattle.drive_log.proofs.versions.search_shared.Given as goal

abbrev pub invariant-loop-slot : goal.invariant-loop-slot
invariant-loop-slot l = (length l.filter ≡ 512) × Filtered (log_of (views_of l.area l.s) (named l.map) l.n) (log_of (views_of l.area l.s) (named l.map) l.slot) l.filter l.table
