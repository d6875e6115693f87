-- What shifts and masks on words of k bits give, in the terms of a slot's bit.
use Rattle.std.specs.Prelude.{◌≡◌, ℕ, ◌-◌, ◌^◌, ◌<◌}
use Rattle.slot_map.specs.Bit.{bit}

-- f names the slots below n that m does not
pub record FreeMap (n m f : ℕ) : Type 0 where
  pub below : f < 2 ^ n
  pub other : (i : ℕ) → i < n → bit f i ≡ 1 - bit m i
