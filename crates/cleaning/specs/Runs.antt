-- Chosen entries that stand one behind the other: where the slot is of the new head's edition, what is copied of them is one stretch of
-- the area.
use Rattle.std.specs.Prelude.{ℕ, ◌+◌, ◌*◌, ◌-◌, ◌≤◌, ◌≡◌, List, ◌++◌, length, take, drop}
use Rattle.segment.specs.Layout.{Layout}
use Rattle.cleaning.specs.ChosenLaws.{chosen_from}

-- the bytes of slot i from an offset up to another
abbrev pub stretch : List ℕ → ℕ → ℕ → ℕ → ℕ → List ℕ
stretch area S i from to = take (to - from) (drop (i * S + from) area)

-- What is chosen of slot i, of the bytes s, from an offset on begins with all that stands before another.
pub record Run (L : Layout) (area chosen : List ℕ) (S i : ℕ) (s : List ℕ) (from at : ℕ) : Type 0 where
  pub low : from ≤ at
  pub high : at ≤ length s
  pub parts : chosen_from L L area chosen S i s from ≡ stretch area S i from at ++ chosen_from L L area chosen S i s at
