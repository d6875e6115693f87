-- Laws of the next free slot.
use Rattle.std.specs.Prelude.{◌≡◌, ℕ, ◌≤◌, ◌<◌}
use Rattle.slot_map.specs.Bit.{bit}

-- ---- what the first free slot is

-- r is free, and every slot of n strictly between the head and r, going round, is named: those up to r where r is above the head,
-- and otherwise those up to the last and those from 0 on
pub record FirstFree (n m head r : ℕ) : Type 0 where
  pub below : r < n
  pub clear : bit m r ≡ 0
  pub ahead : (i : ℕ) → head < i → i < r → bit m i ≡ 1
  pub to_last : r ≤ head → (i : ℕ) → head < i → i < n → bit m i ≡ 1
  pub from_zero : r ≤ head → (i : ℕ) → i < r → bit m i ≡ 1
