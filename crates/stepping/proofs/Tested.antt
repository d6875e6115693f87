-- Laws of: What a step promises of its tests before its store, and that a spent counter is found out there.
use Rattle.std.specs.Prelude.{ℕ, ◌≤◌, ◌≡◌, true, false, List, ◌⊎◌, length, set}
use Rattle.std.proofs.Math.Option.{none}
use Rattle.segment.proofs.Choice.{pick-false}
use Rattle.segment.specs.Layout.{Layout, version_limit, number_limit}
use Rattle.record.specs.declared.Refusal.TheVariants.{BadRecord}
use Rattle.record.specs.Answered.{Stepped}
use Rattle.record.specs.declared.Record.{Record}
use Rattle.model.specs.Causes.{first_cause}
use Rattle.model.specs.Refused.{step_causes}
use Rattle.model.specs.Promises.{StepRefused, lent_lengths}
use Rattle.telling.specs.Agree.{agrees_with, tested_store}
use Rattle.telling.specs.AgreeLaws.{takes_version, entry_layout, takes_number}
use Rattle.telling.proofs.AgreeLaws.{version-disagrees, number-disagrees}
use Rattle.stepping.specs.Tested.{StepTested}

-- Whatever record a step gets: with no version or no digest number left for its operation it is refused, and nothing changes.
module _ (L : Layout) (r : Record) (area area' cells cells' work : List ℕ) (a : Stepped) (tested : StepTested L r area area' cells cells' work a)
    (first : first_cause (step_causes L r (lent_lengths area cells work)) ≡ none) where
  disagrees-refused : agrees_with L r r.pending ≡ false → StepRefused r area area' cells cells' a BadRecord
  unfolding tested_store
  disagrees-refused e = tested.before-store first (pick-false _ _ _ e)

  pub versions-refused : takes_version r.pending ≡ true → version_limit (entry_layout L r r.pending) ≤ r.next.0 → StepRefused r area area' cells cells' a BadRecord
  versions-refused t h = disagrees-refused (version-disagrees L r r.pending t h)

  pub numbers-refused : takes_number r.pending ≡ true → number_limit ≤ r.digest.0 → StepRefused r area area' cells cells' a BadRecord
  numbers-refused t h = disagrees-refused (number-disagrees L r r.pending t h)
