-- `index::search::search` meets its contract. The invariant: this run, and if it meets nothing one from 0 up to its start, give the whole answer.
use Prim.Native.Nat.{◌+◌, ◌-◌, ◌≤◌}
use mathlib.Core.Path.{◌≡◌}
use lib.ListN.{length}
use Rattle.index.specs.Search.{probe, cell_has, search_for}
use Rattle.index.proofs.Probe.{or_else}
use Rattle.index.proofs.search.search.Given as goal

abbrev pub invariant-loop-end : goal.invariant-loop-end
invariant-loop-end l =
    (l.from ≤ l.end)
    × (l.end ≤ length l.cells)
    × (or_else (probe (cell_has l.area l.key) l.cells (l.end - l.from) l.from) (probe (cell_has l.area l.key) l.cells l.from 0)
    ≡ search_for l.area l.cells l.key)

abbrev pub decreases-loop-end : goal.decreases-loop-end
decreases-loop-end l = l.end + l.from
