-- Rebuilding the index of an undamaged log gives the index rule and the number of keys, or finds too many, whatever the order.
use Rattle.std.specs.Prelude.{ℕ, zero, suc, ◌+◌, ◌*◌, ◌-◌, ◌^◌, ◌≤◌, ◌<◌, ◌≡◌, ◌⊎◌, Bool, eqb, leb, length, Some}
use Rattle.std.proofs.Math.Path.{refl, ap}
use Rattle.std.proofs.Common.{sym, ◌∙◌, subst, inl, inr, arith}
use Rattle.std.proofs.Math.Bool.{true, false}
use mathlib.Core.List.Memᴰ
use mathlib.Core.List.{List, [], ◌∷◌}
use Rattle.std.proofs.Math.Decide.{ℕ_discrete}
use Rattle.std.proofs.Math.Nat.{mul-le-mul_right, suc-mul}
use Rattle.std.proofs.Math.ListN.{replicate}
use borrow.Author.Tests.{le-leb, eqb-true, ltb-true, ltb-false, not-false}
use Rattle.slot_map.specs.Bit.{named}
use Rattle.model.specs.Log.{Placed, views_of, log_of, keys_of}
use Rattle.model.specs.Index.{IndexRule}
use Rattle.index.specs.Build.{Rebuilt, Built}

-- ---- the index of an undamaged log whose versions differ

-- The number of a log's keys is told, and the cells keep the rule for it.
pub record Holds (S m : ℕ) (log : List Placed) (r : Rebuilt) : Type 0 where
  pub answers : r.answer ≡ Some (length (keys_of log))
  pub rule : IndexRule S log r.cells
  pub long : length r.cells ≡ m

abbrev pub log_in : List ℕ → ℕ → ℕ → ℕ → List Placed
log_in area S map n = log_of (views_of area S) (named map) n
