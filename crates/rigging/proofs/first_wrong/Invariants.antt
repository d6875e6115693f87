-- `rigging::first_wrong` meets its contract.
use mathlib.Core.Path.{◌≡◌}
use mathlib.Core.Option.{none}
use Rattle.histories.specs.Numbered.{shorter}
use Rattle.rig_model.specs.Verdict.{first_wrong}
use Rattle.rigging.proofs.first_wrong.Given as goal

abbrev pub invariant-loop-letters : goal.invariant-loop-letters
invariant-loop-letters l = first_wrong l.faulty (shorter l.letters) ≡ none
