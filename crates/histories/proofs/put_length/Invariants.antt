-- `histories::put_length` meets its contract.
use Prim.Native.Nat.{◌+◌, ◌*◌, ◌≤◌}
use Rattle.text.specs.Put.{Put}
use Rattle.histories.specs.Numbered.{lines_from}
use Rattle.histories.proofs.put_length.Given as goal

abbrev pub invariant-loop-number : goal.invariant-loop-number
invariant-loop-number l = Put l.initial.out l.out l.at l.end (lines_from l.letters 0 l.number) × (l.end ≤ l.at + 7 * l.number)
