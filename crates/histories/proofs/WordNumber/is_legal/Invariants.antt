-- `histories::WordNumber::is_legal` meets its contract. The invariant: the letters that are left decide.
use mathlib.Core.Path.{◌≡◌}
use Rattle.histories.specs.Letters.{legal_from, legal}
use Rattle.histories.specs.Numbered.{word}
use Rattle.histories.proofs.WordNumber.is_legal.Given as goal

abbrev pub invariant-loop-letter : goal.invariant-loop-letter
invariant-loop-letter l = legal (word l.fn.self.letters l.fn.self.number) ≡ legal_from l.present (word l.letter-iterator.letters l.letter-iterator.number)
