-- `recovery::format::clear` meets its contract. The invariant: the slots before the next have lost their byte 0.
use mathlib.Core.Path.{◌≡◌}
use lib.ListN.{length}
use Rattle.model.specs.Operations.{cleared}
use Rattle.recovery.proofs.format.clear.Given as goal

abbrev pub invariant-loop-slot : goal.invariant-loop-slot
invariant-loop-slot l = (length l.area ≡ length l.initial.area) × (l.area ≡ cleared l.s l.slot l.initial.area)
