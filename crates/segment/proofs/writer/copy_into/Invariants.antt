-- `segment::writer::copy_into` meets its contract. The invariant: storing what is left of `src` gives the whole copy.
use Prim.Native.Nat.{◌+◌}
use mathlib.Core.Path.{◌≡◌}
use lib.ListN.{drop}
use lib.Seq.{sets}
use Rattle.segment.proofs.writer.copy_into.Given as goal

abbrev pub invariant-loop-i : goal.invariant-loop-i
invariant-loop-i l = sets l.dst (l.at + l.i) (drop l.i l.src) ≡ sets l.initial.dst l.at l.src
