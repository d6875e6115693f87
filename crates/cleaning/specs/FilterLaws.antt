-- Marks made by a walk that goes by a filter agree with those of the whole walk on the cell of each key that the filter has.
use Prim.Native.Nat.{ℕ}
use Rattle.std.specs.Prelude.{◌≡◌}
use Rattle.std.proofs.Math.Bool.{true}
use mathlib.Core.List.{List}
use Rattle.std.proofs.Math.ListN.{length}
use Rattle.segment.specs.declared.Key.{Key}
use Rattle.cleaning.specs.Marks.{is_marked}
use Rattle.cleaning.specs.Filter.{filter_has}

-- ---- the filter has the key of each tombstone that was noted

-- 128 words that have the key
pub record Has (k : Key) (filter : List ℕ) : Type 0 where
  pub long : length filter ≡ 128
  pub has : filter_has filter k ≡ true

-- ---- the two walks agree on the cell of a key that the filter has

-- 128 words each, alike in the mark of a cell
pub record Agree (c : ℕ) (a b : List ℕ) : Type 0 where
  pub left-long : length a ≡ 128
  pub right-long : length b ≡ 128
  pub same : is_marked a c ≡ is_marked b c
