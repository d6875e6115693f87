-- `converting::rewrite::put_entries` meets its contract. The invariant: with the entries left, the copy is that of all.
use Prim.Native.Nat.{◌-◌}
use lib.ListN.{length}
use Rattle.converting.specs.RewriteLaws.{Putting}
use Rattle.converting.proofs.rewrite.put_entries.Given as goal

abbrev pub invariant-loop-header : goal.invariant-loop-header
invariant-loop-header l = Putting l.from l.to l.part l.initial.target l.start l.target l.at l.place

abbrev pub decreases-loop-header : goal.decreases-loop-header
decreases-loop-header l = length l.part - l.at
