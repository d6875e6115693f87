-- 02, R-13: the switch of a live store to the second edition. The call takes the record alone.
use Rattle.std.specs.Prelude.{◌≡◌, not, List, [], ◌∷◌, Ok, Err}
use Rattle.std.proofs.Math.Option.{Option, none, some}
use Rattle.segment.specs.Layout.{Layout}
use Rattle.record.specs.Answers.{taken, said_by}
use Rattle.record.specs.Range.{in_range}
use Rattle.record.specs.Switch.{switched_on, switch_said}
use Rattle.record.specs.declared.Record.{Record}
use Rattle.record.specs.declared.Refusal.{Refusal}
use Rattle.record.specs.declared.Refusal.TheVariants.{BadRecord, Busy}
use Rattle.record.specs.Answered.{SwitchAnswer, Switching}
use Rattle.model.specs.Causes.{Cause, when, first_cause}
use Rattle.model.specs.Refused.{is_pending}

-- 4, by the record's range alone, and 5
abbrev pub switch_causes : Layout → Record → List Cause
switch_causes L r = when (not (in_range L r)) BadRecord ∷ when (is_pending r.pending) Busy ∷ []

-- Refused, the record stays as it is.
unfoldable pub switching : Option Refusal → Record → Switching
switching none r = record { answer = (Ok tt); rec = switched_on r }
switching (some c) r = record { answer = Err c; rec = r }

-- The whole answer is fixed for every record.
pub record SwitchPromise (L : Layout) (r : Record) (a : Switching) : Type 0 where
  pub answers : a ≡ switching (first_cause (switch_causes L r)) r
  pub says : switch_said a.answer ≡ said_by (first_cause (switch_causes L r)) taken
