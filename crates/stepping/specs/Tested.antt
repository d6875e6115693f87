-- What a step promises of its tests before its store, and that a spent counter is found out there.
use Rattle.std.specs.Prelude.{ℕ, ◌≤◌, ◌≡◌, true, false, List, ◌⊎◌, length, set, Ok, Err, None, Some}
use Rattle.std.proofs.Math.Option.{none}
use Rattle.segment.specs.Layout.{Layout}
use Rattle.record.specs.Answers.{stores_left, with_pending}
use Rattle.record.specs.declared.Refusal.{Refusal}
use Rattle.record.specs.declared.Refusal.TheVariants.{BadRecord}
use Rattle.record.specs.Answered.{StepAnswer, Stepped}
use Rattle.record.specs.declared.Progress.{Progress}
use Rattle.record.specs.declared.Record.{Record}
use Rattle.model.specs.Causes.{first_cause}
use Rattle.model.specs.Refused.{step_causes}
use Rattle.model.specs.Promises.{StepRefused, lent_lengths}
use Rattle.telling.specs.Agree.{tested_store}

-- Whatever the record: where one of these tests fails the step is refused with 4 and changes nothing, and where they are passed it makes
-- the store that they found. Behind its store a step is refused only if it is the last one, with 4, by what it finds in the log or in
-- the index, and hands the record back.
pub record StepTested (L : Layout) (r : Record) (area area' cells cells' work : List ℕ) (a : Stepped) : Type 0 where
  pub before-store :
      first_cause (step_causes L r (lent_lengths area cells work)) ≡ none → tested_store L (length area) work r ≡ None →
      StepRefused r area area' cells cells' a BadRecord
  pub stores :
      first_cause (step_causes L r (lent_lengths area cells work)) ≡ none → (place byte : ℕ) →
      tested_store L (length area) work r ≡ Some (record { place = place; byte = byte }) → area' ≡ set area place byte
  pub behind-store :
      (c : Refusal) → a.answer ≡ Err c →
      (area' ≡ area) ⊎ ((stores_left r.pending ≡ 1) × (a ≡ record { answer = Err BadRecord; rec = r }))
  -- while stores are left only the pending operation of the record changes
  pub goes_on : (k : ℕ) → a.answer ≡ Ok (Progress.Left k) → a.rec ≡ with_pending r a.rec.pending
