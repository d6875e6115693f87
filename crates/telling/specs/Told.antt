-- What is told of the next store, whatever record, area and work buffer there are.
use Rattle.std.specs.Prelude.{ℕ, List, length, Ok, Err, None, Some}
use Rattle.std.proofs.Math.Option.{Option, none, some}
use Rattle.segment.specs.Layout.{Layout}
use Rattle.record.specs.Answered.{Foretold, TellAnswer}
use Rattle.record.specs.declared.Record.{Record}
use Rattle.record.specs.declared.Refusal.{Refusal}
use Rattle.record.specs.declared.Refusal.TheVariants.{BadRecord}
use Rattle.model.specs.Causes.{first_cause}
use Rattle.model.specs.Refused.{step_causes, tell_causes}
use Rattle.model.specs.Promises.{tell_lengths}
use Rattle.telling.specs.Agree.{tested_store}
use Rattle.telling.specs.Next.{NextStore}

-- the refusal, with the record handed back
abbrev pub refused_telling : Record → Refusal → Foretold
refused_telling r c = record { answer = Err c; rec = r }

-- a store that has no place is 4, as a step answers it
unfoldable pub told_store : NextStore → TellAnswer
told_store (Some s) = Ok s
told_store None = Err BadRecord

unfoldable pub told_unless : Layout → Record → ℕ → List ℕ → Option Refusal → TellAnswer
told_unless L r area_length work none = told_store (tested_store L area_length work r)
told_unless L r area_length work (some c) = Err c

-- The first cause of a step that holds, or the store that it finds behind its tests, with an index of so many cells.
abbrev pub found_by : Layout → Record → List ℕ → ℕ → List ℕ → TellAnswer
found_by L r area cells work =
    told_unless L r (length area) work (first_cause (step_causes L r (record { area = length area; index = cells; work = length work })))

-- The first cause that holds, or the store that a step finds behind its tests.
abbrev pub told_by : Layout → Record → List ℕ → List ℕ → Foretold
told_by L r area work =
    record { answer = told_unless L r (length area) work (first_cause (tell_causes L r (tell_lengths area work))); rec = r }
