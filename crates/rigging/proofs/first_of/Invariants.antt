-- `rigging::first_of` meets its contract.
use Prim.Native.Nat.{◌-◌}
use mathlib.Core.Path.{◌≡◌}
use Rattle.histories.specs.List.{legal_ones, histories_of}
use Rattle.histories.specs.Numbered.{numbered}
use Rattle.rig_model.specs.Verdict.{first_wrong}
use Rattle.rigging.proofs.first_of.Given as goal

abbrev pub invariant-loop-number : goal.invariant-loop-number
invariant-loop-number l = first_wrong l.faulty (histories_of l.letters) ≡ first_wrong l.faulty (legal_ones (numbered l.letters l.number (l.number-end - l.number)))
