-- The table of kinds as numbers, with 0 for none: no kind is 0, and no entry is empty.
use Rattle.std.specs.Prelude.{ℕ, ◌≡◌}
use Rattle.std.proofs.Math.Option.{Option, none, some}
use Rattle.segment.specs.Layout.{Layout, value_length, entry_size}

unfoldable pub size_or_zero : Layout → Option ℕ → ℕ
size_or_zero L none = 0
size_or_zero L (some n) = entry_size L n

-- the length of an entry of kind k, and 0 where no entry has that kind
abbrev pub kind_size : Layout → ℕ → ℕ
kind_size L k = size_or_zero L (value_length L k)

-- What it means that entries of kind k have values of n bytes.
pub record Kind (L : Layout) (k n : ℕ) : Type 0 where
  pub known : value_length L k ≡ some n
  pub size : kind_size L k ≡ entry_size L n
