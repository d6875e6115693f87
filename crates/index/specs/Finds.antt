-- Under the index rule a search finds the latest entry of its key, or a free cell while there are fewer keys than cells.
use Rattle.std.specs.Prelude.{ℕ, zero, suc, ◌+◌, ◌≤◌, ◌<◌, Bool, true, false, List, [], ◌∷◌, ltb}
use Rattle.std.proofs.Math.Path.{◌≡◌, refl}
use Rattle.std.proofs.Common.{sym, ◌∙◌, ap, subst, inl, inr, ltb-true, ltb-false}
use mathlib.Core.List.Memᴰ
use Rattle.std.proofs.Math.Option.{none, some}
use native.Mathlib.Omega.{arith}
use Rattle.std.proofs.Math.ListN.{length, get_or}
use Rattle.segment.specs.declared.Key.{Key}
use Rattle.model.specs.Log.{Placed, place_of, same_key}
use Rattle.model.specs.Index.{start_cell, Met}
use Rattle.laws.specs.Members.{In}

-- The test picks the entries of the log that have the key k, by what a cell holds for them.
abbrev pub Picks : (ℕ → Bool) → ℕ → List Placed → Key → Type 0
Picks t S log k = (x : Placed) → In x log → t (place_of S x + 1) ≡ same_key k x.entry

-- The free cell in which a search for a key ends.
pub record FreeCell (cells : List ℕ) (k : Key) : Type 0 where
  pub cell : ℕ
  pub below : cell < length cells
  pub free : get_or cells cell 0 ≡ 0
  pub met : Met cells (start_cell (length cells) k) cell
