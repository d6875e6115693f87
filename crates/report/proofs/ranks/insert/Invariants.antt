-- `report::ranks::insert` meets its contract. The invariant: what stands before i, with the carried rank put among the rest of
-- the first n, is the answer.
use mathlib.Core.Path.{◌≡◌}
use mathlib.Core.List.{◌++◌}
use lib.ListN.{take}
use lib.Seq.{slice}
use Rattle.report.specs.Ascent.{carried}
use Rattle.report.proofs.ranks.insert.Given as goal

abbrev pub invariant-loop-i : goal.invariant-loop-i
invariant-loop-i l = take l.i l.ranks ++ carried l.carry (slice l.i l.n l.ranks) ≡ carried l.rank (take l.n l.initial.ranks)
