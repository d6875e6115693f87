-- Place and byte at each test of the code, and for a started operation: the store of its plan whose turn it is.
use Rattle.std.specs.Prelude.{ℕ, ◌+◌, ◌*◌, ◌-◌, ◌≤◌, ◌<◌, Bool, true, false, not, List, eqb, ltb, leb, length, get_or}
use Rattle.std.proofs.Math.Path.{◌≡◌, refl, sym, ap, subst⁻¹}
use Rattle.std.proofs.Common.{◌∙◌, mul-le-mul, mul-le-mul_right}
use Rattle.std.proofs.Math.Decide.{ℕ_discrete, dec_lt}
use native.Mathlib.Omega.{arith}
use borrow.Author.Tests.{lt-ltb, le-ltb, le-leb, lt-leb, not-true, not-false, eq-eqb, ne_eqb, ltb-true, leb-true}

-- ---- the test of the slot at each of its parts

pub record Fit (area_length work_length S slot offset n : ℕ) : Type 0 where
  pub some : 0 < n
  pub read : n ≤ work_length
  pub room : offset + n ≤ S
  pub inside : slot * S + S ≤ area_length
