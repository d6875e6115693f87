-- 01, "Index": what the cells hold. Any layout that this rule allows will do.
use Rattle.std.specs.Prelude.{ℕ, ◌+◌, ◌-◌, ◌%◌, ◌<◌, ◌≡◌, ◌⊎◌, Bool, List, ltb, length, get_or}
use Rattle.std.proofs.Math.Option.{some}
use Rattle.word.specs.Fnv.{key_hash}
use Rattle.segment.specs.Choice.{pick}
use Rattle.segment.specs.Entry.{key_of}
use Rattle.segment.specs.declared.Key.{Key}
use Rattle.model.specs.Log.{Placed, place_of, latest}

-- A search goes up and round the end: cell x of m, for x below 2 m.
unfoldable pub around : ℕ → ℕ → ℕ
around m x = pick (ltb x m) x (x - m)

-- It starts at the FNV-1a of the six key bytes, modulo M.
abbrev pub start_cell : ℕ → Key → ℕ
start_cell m k = key_hash k.table k.key % m

-- Cell i is met in a search of these cells from a start, with no 0 before it.
pub record Met (cells : List ℕ) (start i : ℕ) : Type 0 where
  pub distance : ℕ
  pub short : distance < length cells
  pub arrives : around (length cells) (start + distance) ≡ i
  pub full : (d : ℕ) → d < distance → get_or cells (around (length cells) (start + d)) 0 ≡ 0 → ⊥

-- x is the entry with the highest version of its key.
abbrev pub IsLatest : List Placed → Placed → Type 0
IsLatest log x = latest log (key_of x.entry) ≡ some x

-- A cell is free (0) or holds, one higher, the place of some key's entry with the highest version.
abbrev pub CellGood : ℕ → List Placed → ℕ → Type 0
CellGood S log c = (c ≡ 0) ⊎ ((x : Placed) × IsLatest log x × (c ≡ place_of S x + 1))

-- The cell of the entry x, where a search for its key finds it.
pub record HasCell (S : ℕ) (cells : List ℕ) (x : Placed) : Type 0 where
  pub cell : ℕ
  pub below : cell < length cells
  pub holds : get_or cells cell 0 ≡ place_of S x + 1
  pub met : Met cells (start_cell (length cells) (key_of x.entry)) cell

-- The rule: every cell is good, and each key that the log has an entry of has one cell, where a search finds it.
pub record IndexRule (S : ℕ) (log : List Placed) (cells : List ℕ) : Type 0 where
  pub good : (i : ℕ) → i < length cells → CellGood S log (get_or cells i 0)
  pub found : (x : Placed) → IsLatest log x → HasCell S cells x
  pub once : (i j : ℕ) → i < length cells → j < length cells → (get_or cells i 0 ≡ 0 → ⊥) → get_or cells i 0 ≡ get_or cells j 0 → i ≡ j
