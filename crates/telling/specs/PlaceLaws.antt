-- The place of the next store at each test of the code, and that with the work buffer's byte it is the next store.
use Rattle.std.specs.Prelude.{ℕ, ◌+◌, ◌*◌, ◌-◌, ◌≤◌, ◌<◌, refl, Bool, false, not, List, eqb, ltb, leb, length, get_or, Some}
use Rattle.std.proofs.Math.Path.{◌≡◌, sym, ap}
use Rattle.std.proofs.Common.{◌∙◌}
use Rattle.std.proofs.Math.Bool.{true}
use native.Mathlib.Omega.{arith}
use borrow.Author.Tests.{lt-ltb, le-ltb, le-leb, lt-leb, not-true, not-false, eq-eqb, ne_eqb, ltb-true, leb-true}
use Rattle.telling.specs.Places.{Place}

-- ---- a byte that is copied stands among the n bytes

-- an offset that is told is not above m, and below k where a byte is copied from it
abbrev pub Copies : ℕ → ℕ → Place → Type 0
Copies m k x = (p f : ℕ) (c : Bool) → x ≡ Some (record { place = p; from = f; copied = c }) → (f ≤ m) × (c ≡ true → f < k)
