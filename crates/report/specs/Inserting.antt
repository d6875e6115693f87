-- What the loops that gather ranks keep.
use Rattle.std.specs.Prelude.{ℕ, zero, suc, ◌+◌, ◌-◌, ◌<◌, ◌≤◌, min, max, ◌≡◌, length, get_or, drop, set}
use Rattle.std.proofs.Math.Path.{sym, ap}
use Rattle.std.proofs.Common.{◌∙◌, add-one, arith, drop_of_length-le, take-suc-set, drop-set-lt, drop-cons}
use mathlib.Core.List.{List, ◌++◌}
use Rattle.std.proofs.Math.Option.{Option, none, some}
use Rattle.std.proofs.Math.Numerals.{unary_clauses}
use Rattle.std.proofs.Math.ListN.{take}
use Rattle.std.proofs.Math.Seq.{slice, slice-cons, slice_empty, take-set-lt, append_snoc}
use Rattle.report.specs.Ascent.{added, gathered}

-- ---- what a cell gives put among the first n

-- The first r are the first n and what the cell gave, in its place.
pub record AddsRank (ranks ranks' : List ℕ) (n r : ℕ) (given : Option ℕ) : Type 0 where
  pub stands : take r ranks' ≡ added given (take n ranks)
  pub one_more : r ≤ n + 1

-- ---- the walk over the cells, from the last to the first

-- The first n ranks are those of the cells from i on.
pub record Gathered (f : ℕ → Option ℕ) (cells ranks : List ℕ) (i n : ℕ) : Type 0 where
  pub inside : i ≤ length cells
  pub few : n + i ≤ length cells
  pub stands : take n ranks ≡ gathered f (drop i cells)

pub gather-starts : (f : ℕ → Option ℕ) (cells ranks : List ℕ) → Gathered f cells ranks (length cells) 0
unfolding gathered
gather-starts f cells ranks =
    record { inside = omega arith; few = omega arith; stands = sym (ap (gathered f) (drop_of_length-le cells {i = length cells} (omega arith))) }
