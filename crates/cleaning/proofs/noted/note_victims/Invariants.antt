-- `cleaning::noted::note_victims` meets its contract. The invariant: the filter is that of the slots so far.
use mathlib.Core.Path.{◌≡◌}
use Rattle.cleaning.specs.Walks.{walk_below}
use Rattle.cleaning.specs.Filter.{note_entry}
use Rattle.cleaning.proofs.noted.note_victims.Given as goal

abbrev pub invariant-loop-i : goal.invariant-loop-i
invariant-loop-i l =
    l.filter ≡ walk_below note_entry l.area l.split.size l.split.victims l.initial.filter l.i
