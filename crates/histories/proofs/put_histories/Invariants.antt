-- `histories::put_histories` meets its contract.
use Prim.Native.Nat.{◌+◌, ◌*◌, ◌^◌, ◌≤◌}
use Rattle.text.specs.Put.{Put}
use Rattle.histories.specs.List.{lines_of}
use Rattle.histories.specs.Numbered.{shorter}
use Rattle.histories.proofs.put_histories.Given as goal

abbrev pub invariant-loop-letters : goal.invariant-loop-letters
invariant-loop-letters l = Put l.initial.out l.out l.at l.end (lines_of (shorter l.letters)) × (4 * l.end + 7 ≤ 4 * l.at + 7 * 5 ^ l.letters)
