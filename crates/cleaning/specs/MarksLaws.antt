-- The walk outside the victims at each test of the code, and what a mark means.
use Prim.Native.Nat.{ℕ, ◌<◌}
use Rattle.std.specs.Prelude.{◌≡◌}
use Rattle.std.proofs.Math.Bool.{true, false}
use mathlib.Core.List.{List}
use Rattle.segment.specs.declared.Header.{Header}
use Rattle.segment.specs.declared.Key.{Key}
use Rattle.index.specs.Search.{search_for}
use Rattle.index.specs.declared.Found.{Found}
use Rattle.cleaning.specs.Entries.{is_key_of}

-- ---- what a mark means

-- The search for the key of an entry finds the cell c if the key is k, and else another cell.
pub record Tells (area cells : List ℕ) (k : Key) (c : ℕ) (h : Header) : Type 0 where
  pub own : is_key_of k h ≡ true → search_for area cells h.key ≡ Found.At c
  pub other : is_key_of k h ≡ false → (d : ℕ) × (d < 4096) × (d ≡ c → ⊥) × (search_for area cells h.key ≡ Found.At d)
