-- How many slots a map names, and how many it leaves free (01, "The log and its map").
use Rattle.std.specs.Prelude.{ℕ, zero, suc, ◌+◌, ◌-◌, ◌^◌}
use Rattle.slot_map.specs.Bit.{bit}

-- how many of the slots below n the map m names
unfoldable pub used : ℕ → ℕ → ℕ
used zero m = 0
used (suc n) m = used n m + bit m n

-- how many of the slots below n it leaves free
abbrev pub free : ℕ → ℕ → ℕ
free n m = n - used n m

-- the map that names all n slots; a map below it names only slots below n and leaves one of them free (`not-all`, `all_named`)
abbrev pub all_slots : ℕ → ℕ
all_slots n = 2 ^ n - 1
