-- `words::copy_words` meets its contract. The invariant: storing what is left of `from` gives the whole copy.
use Prim.Native.Nat.{◌+◌}
use mathlib.Core.Path.{◌≡◌}
use lib.ListN.{length, drop}
use lib.Seq.{sets}
use Rattle.words.proofs.copy_words.Given as goal

abbrev pub invariant-loop-i : goal.invariant-loop-i
invariant-loop-i l = (length l.to ≡ length l.initial.to) × (sets l.to (l.at + l.i) (drop l.i l.from) ≡ sets l.initial.to l.at l.from)
