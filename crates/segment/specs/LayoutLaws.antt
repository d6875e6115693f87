-- Laws of a layout's table of kinds, and of the versions that it allows.
use Rattle.std.specs.Prelude.{ℕ, ◌<◌, ◌≡◌}
use mathlib.Core.List.{List}
use Rattle.std.proofs.Math.Option.{some}
use Rattle.segment.specs.Layout.{lookup, look_back}

-- ---- the table of objects

-- what it means that an object of kind k has a value of n bytes, beside the tombstone's kind t
pub record Sound (t : ℕ) (all : List (ℕ × ℕ)) (k n : ℕ) : Type 0 where
  pub not_end : k ≡ 0 → ⊥
  pub not-tombstone : k ≡ t → ⊥
  pub byte : k < 256
  pub found : lookup k all ≡ some n
  pub found_back : look_back n all ≡ some k
