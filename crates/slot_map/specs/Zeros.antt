-- Trailing zeros find the lowest slot that a map names.
use Rattle.std.specs.Prelude.{◌≡◌, ℕ, ◌<◌}
use Rattle.slot_map.specs.Bit.{bit}

-- r is the lowest slot of k that m names
pub record Lowest (k m r : ℕ) : Type 0 where
  pub below : r < k
  pub set : bit m r ≡ 1
  pub least : (i : ℕ) → i < r → bit m i ≡ 0
