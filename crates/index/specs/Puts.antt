-- Putting the place of an entry into the cell that a search gives keeps the index rule.
use Rattle.std.specs.Prelude.{ℕ, zero, suc, ◌+◌, ◌≤◌, ◌<◌, ◌≡◌, Bool, true, false, List, [], ◌∷◌, eqb, length, get_or, set}
use Rattle.std.proofs.Math.Path.{refl, sym, ap, subst}
use Rattle.std.proofs.Common.{◌∙◌, inl, inr, arith, length-set, get_or-set_same, get_or-set_other, eqb-true}
use mathlib.Core.List.Memᴰ
use Rattle.std.proofs.Math.Option.{Option, none, some}
use Rattle.std.proofs.lemmas.Bool.{eqb-false}
use Rattle.segment.specs.declared.Key.{Key}
use Rattle.model.specs.Log.{Placed, place_of, latest}
use Rattle.model.specs.Index.{start_cell, Met}

-- ---- the cell for an entry of a key: it holds the latest entry of the key, or is free where there is none

unfoldable pub CellOf : ℕ → ℕ → Option Placed → Type 0
CellOf S c none = c ≡ 0
CellOf S c (some y) = c ≡ place_of S y + 1

pub record Target (S : ℕ) (log : List Placed) (cells : List ℕ) (k : Key) (i : ℕ) : Type 0 where
  pub below : i < length cells
  pub met : Met cells (start_cell (length cells) k) i
  pub holds : CellOf S (get_or cells i 0) (latest log k)
