-- 01, "Index": the search for a key, as a total function of any area and any cells.
use Rattle.std.specs.Prelude.{ℕ, zero, suc, ◌+◌, ◌-◌, Bool, List, eqb, leb, length, get_or, take, drop}
use Rattle.word.specs.Number.{number_of}
use Rattle.segment.specs.Choice.{pick, both}
use Rattle.segment.specs.Layout.{edition1, entry_size, table}
use Rattle.segment.specs.Area.{layout_at}
use Rattle.segment.specs.declared.Key.{Key}
use Rattle.model.specs.Index.{around, start_cell}
use Rattle.index.specs.declared.Found.{Found}
use Rattle.index.specs.declared.Found.TheVariants.{At, Free, Full}

-- At most f cells from one on, going up round the end, to the first that is 0 or that the test picks by what it holds.
unfoldable pub probe : (ℕ → Bool) → List ℕ → ℕ → ℕ → Found
probe t cells zero at = Full
probe t cells (suc f) at =
    let rest = probe t cells f (around (length cells) (at + 1)) in
    pick (eqb (get_or cells at 0) 0) (Free at) (pick (t (get_or cells at 0)) (At at) rest)

-- ---- the fields of an entry at a place of the area

abbrev pub table_at : List ℕ → ℕ → ℕ
table_at area p = number_of (take 2 (drop (p + 1) area))

abbrev pub key_at : List ℕ → ℕ → ℕ
key_at area p = number_of (take 4 (drop (p + 3) area))

-- The version, by the edition that the entry's kind tells (02, R-11); 0 where no entry of that edition fits.
abbrev pub version_at : List ℕ → ℕ → ℕ
version_at area p =
    pick (leb (p + entry_size (layout_at area p) 0) (length area)) (number_of (take (table (layout_at area p)).width (drop (p + 7) area))) 0

-- whether the entry at a place has that key, which stands at the same offsets in either edition; a place where not even the shortest
-- entry fits, a tombstone of edition 1, has none
unfoldable pub has_key_at : List ℕ → Key → ℕ → Bool
has_key_at area k p =
    both (leb (p + entry_size edition1 0) (length area)) (both (eqb k.table (table_at area p)) (eqb k.key (key_at area p)))

-- A cell that is not 0 stands for the place below it.
abbrev pub cell_has : List ℕ → Key → ℕ → Bool
cell_has area k c = has_key_at area k (c - 1)

-- the most cells that there can be (01: M up to 4,096)
abbrev pub most_cells : ℕ
most_cells = 4096

-- From the cell of the key's hash over all cells. 02, R-6: place and count are numbers of 16 bits, in which the most cells have room. More
-- cells than that, which the range test lets no call have, are not searched.
unfoldable pub search_for : List ℕ → List ℕ → Key → Found
search_for area cells k =
    pick (leb (length cells) most_cells) (probe (cell_has area k) cells (length cells) (start_cell (length cells) k)) Full
