-- `counting::clear` meets its contract. The invariant: below i the victims' numbers are 0, and from i on all are as they were.
use mathlib.Core.Path.{◌≡◌}
use lib.ListN.{length}
use Rattle.counting.specs.CountingLaws.{Cleared}
use Rattle.counting.proofs.clear.Given as goal

abbrev pub invariant-loop-i : goal.invariant-loop-i
invariant-loop-i l = (length l.counts ≡ length l.initial.counts) × Cleared l.victims l.i l.initial.counts l.counts
