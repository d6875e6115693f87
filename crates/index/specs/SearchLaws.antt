-- The search at each test of the code. Premises are the tests as the code has them, and what its callees give.
use Rattle.std.specs.Prelude.{ℕ, ◌+◌, ◌-◌, ◌%◌, ◌≤◌, ◌<◌, Bool, true, false, List, ◌⊎◌, eqb, leb, length, take, drop}
use Rattle.std.proofs.Math.Path.{◌≡◌, sym, ap}
use Rattle.std.proofs.Common.{◌∙◌, inl, inr, eq-zero-or-pos, mod-lt}
use Rattle.std.proofs.Math.Decide.{dec_lt}
use native.Mathlib.Omega.{arith}
use Rattle.std.proofs.Math.ListN.{get_or}
use borrow.Author.Tests.{le-leb, lt-leb, leb-true, eq-eqb, ne_eqb}
use Rattle.segment.specs.Layout.{edition1, entry_size}

-- ---- what an answer says for any area and any cells

-- The cell is there, is not 0, and an entry fits at its place.
pub record Inside (area cells : List ℕ) (i : ℕ) : Type 0 where
  pub below : i < length cells
  pub taken : 0 < get_or cells i 0
  pub fits : get_or cells i 0 - 1 + entry_size edition1 0 ≤ length area
