-- `cleaning::kept::measure` meets its contract. The invariant: the total and what is chosen are those of the slots so far.
use Prim.Native.Nat.{◌*◌, ◌≤◌}
use mathlib.Core.Path.{◌≡◌}
use lib.ListN.{length}
use Rattle.cleaning.specs.Kept.{kept_test, kept_below}
use Rattle.cleaning.specs.Chosen.{choose_below}
use Rattle.cleaning.proofs.kept.measure.Given as goal

abbrev pub invariant-loop-i : goal.invariant-loop-i
invariant-loop-i l =
    (l.total ≡ length (kept_below l.into l.area l.cells l.marks l.split l.i))
    × (l.total ≤ 4096 * l.i)
    × (l.chosen ≡ choose_below (kept_test l.area l.cells l.marks) l.area l.split l.initial.chosen l.i)
