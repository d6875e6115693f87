-- `drive_log::survey::survey` meets its contract. The invariant: the slots passed that the map names are undamaged, and this was told of them.
use Rattle.std.specs.Prelude.{true}
use Rattle.slot_map.specs.Bit.{named}
use Rattle.model.specs.Log.{views_of}
use Rattle.drive_log.specs.Surveys.{Surveying}
use Rattle.drive_log.proofs.survey.survey.Given as goal

abbrev pub invariant-loop-slot : goal.invariant-loop-slot
invariant-loop-slot l = Surveying (views_of l.area l.s) (named l.map) l.slot true l.passed.highest.0 l.passed.apart l.filter
