-- `index::search::search_up` meets its contract. The invariant: the search from here up to the end gives the whole answer.
use Prim.Native.Nat.{◌-◌, ◌≤◌}
use mathlib.Core.Path.{◌≡◌}
use lib.ListN.{length}
use Rattle.index.specs.Search.{probe, cell_has}
use Rattle.index.proofs.search.search_up.Given as goal

abbrev pub invariant-loop-at : goal.invariant-loop-at
invariant-loop-at l =
    (l.end ≤ length l.cells) × (probe (cell_has l.area l.key) l.cells (l.end - l.at) l.at ≡ probe (cell_has l.area l.key) l.cells (l.end - l.from) l.from)
