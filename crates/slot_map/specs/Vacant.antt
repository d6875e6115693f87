-- The first free slot after the head, by trailing zeros of the map of free slots.
use Rattle.std.specs.Prelude.{ℕ, ◌/◌, ◌^◌}

-- `(f >> head) >> 1`: the slots above the head
abbrev pub above : ℕ → ℕ → ℕ
above f head = f / 2 ^ head / 2
