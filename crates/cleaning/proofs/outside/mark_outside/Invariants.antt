-- `cleaning::outside::mark_outside` meets its contract. The invariant: the marks are those of the slots so far.
use mathlib.Core.Path.{◌≡◌}
use Rattle.cleaning.specs.Walks.{walk_below}
use Rattle.cleaning.specs.Filter.{sift_entry}
use Rattle.cleaning.proofs.outside.mark_outside.Given as goal

abbrev pub invariant-loop-i : goal.invariant-loop-i
invariant-loop-i l =
    l.marks ≡ walk_below (sift_entry l.area l.cells l.filter) l.area l.split.size l.split.outside l.initial.marks l.i
