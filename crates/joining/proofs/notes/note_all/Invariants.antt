-- `joining::notes::note_all` meets its contract. The invariant: the notes and the sums are those of the slots so far.
use mathlib.Core.Path.{◌≡◌}
use Rattle.joining.specs.Notes.{note_below, ObjectsCounted, TombstonesCounted}
use Rattle.joining.proofs.notes.note_all.Given as goal

abbrev pub invariant-loop-i : goal.invariant-loop-i
invariant-loop-i l =
    (l.notes ≡ note_below l.area l.cells l.split l.initial.notes l.i)
    × ObjectsCounted l.into l.area l.cells l.split l.i l.totals
    × TombstonesCounted l.into l.area l.split l.i l.tombstones
