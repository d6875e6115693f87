-- `drive_log::parts::survey_as` meets its contract. The invariant: this was told of the entries passed, and the scan goes on from here.
use Prim.Native.Nat.{◌-◌}
use lib.ListN.{length}
use mathlib.Core.Bool.{not}
use Rattle.std.specs.Prelude.{eqb}
use Rattle.drive_log.specs.Editions.{edition_if}
use Rattle.drive_log.specs.Surveys.{Telling}
use Rattle.drive_log.proofs.parts.survey_as.Given as goal

abbrev pub invariant-loop-header : goal.invariant-loop-header
invariant-loop-header g l = Telling (edition_if (not (eqb g.row.SECOND 0))) l.part l.initial.highest.0 l.initial.apart l.initial.filter l.at l.highest.0 l.apart l.filter

abbrev pub decreases-loop-header : goal.decreases-loop-header
decreases-loop-header g l = length l.part - l.at
