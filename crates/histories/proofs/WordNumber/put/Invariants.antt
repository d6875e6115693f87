-- `histories::WordNumber::put` meets its contract. The invariant: the letters that are left, put at the end so far, give the whole word.
use Prim.Native.Nat.{◌+◌}
use mathlib.Core.Path.{◌≡◌}
use lib.Seq.{sets}
use Rattle.histories.specs.List.{codes_of}
use Rattle.histories.specs.Numbered.{word}
use Rattle.histories.proofs.WordNumber.put.Given as goal

abbrev pub invariant-loop-letter : goal.invariant-loop-letter
invariant-loop-letter l =
    (l.end + l.letter-iterator.letters ≡ l.at + l.fn.self.letters)
    × (sets l.out l.end (codes_of (word l.letter-iterator.letters l.letter-iterator.number)) ≡ sets l.initial.out l.at (codes_of (word l.fn.self.letters l.fn.self.number)))
