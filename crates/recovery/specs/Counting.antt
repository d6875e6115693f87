-- 02, R-5: the present bytes of the slots as recovery counts them, over the cells of the index, for any cells and any area.
use Rattle.std.specs.Prelude.{ℕ, ◌-◌, ◌/◌, ◌≤◌, List, [], ◌∷◌, eqb, get_or, replicate}
use Rattle.segment.specs.Choice.{pick}
use Rattle.segment.specs.Area.{object_at}
use Rattle.model.specs.Counts.{more_bytes}

-- One cell more: it is free (0), or one higher than a place, whose object is counted in the number of the place's slot. A slot
-- that has no number counts for nothing.
unfoldable pub count_cell : ℕ → List ℕ → ℕ → List ℕ → List ℕ
count_cell S area c counts = pick (eqb c 0) counts (more_bytes ((c - 1) / S) (object_at area (c - 1)) counts)

unfoldable pub count_cells : ℕ → List ℕ → List ℕ → List ℕ → List ℕ
count_cells S area [] counts = counts
count_cells S area (c ∷ cells) counts = count_cells S area cells (count_cell S area c counts)

abbrev pub counted_in : ℕ → List ℕ → List ℕ → List ℕ
counted_in S area cells = count_cells S area cells (replicate 32 0)

-- none of the numbers is above m
abbrev pub NoneAbove : ℕ → List ℕ → Type 0
NoneAbove m counts = (i : ℕ) → get_or counts i 0 ≤ m
