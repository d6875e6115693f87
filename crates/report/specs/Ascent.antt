-- Lists of numbers that ascend, and how a number is put in its place: it is carried along the list, and at each place the
-- lower of the two stays.
use Rattle.std.specs.Prelude.{ℕ, zero, suc, ◌<◌, ◌≤◌, min, max, ◌⊎◌, Bool, true, false, ltb, length, get_or}
use Rattle.std.proofs.Math.Path.{◌≡◌, refl, ap, subst}
use Rattle.std.proofs.Common.{sym, ◌∙◌, inl, inr, ltb-true, ltb-false}
use mathlib.Core.List.Memᴰ
use mathlib.Core.List.{List, [], ◌∷◌}
use Rattle.std.proofs.Math.Option.{Option, none, some}
use native.Mathlib.Omega.{arith}
use Rattle.laws.specs.Members.{In}

unfoldable pub carried : ℕ → List ℕ → List ℕ
carried c [] = c ∷ []
carried c (y ∷ ys) = min c y ∷ carried (max c y) ys

-- ---- lists that ascend

-- x is below every member
abbrev pub Under : ℕ → List ℕ → Type 0
Under x xs = (y : ℕ) → In y xs → x < y

pub data Ascending : List ℕ → Type 0 where
  none_left : Ascending []
  then-higher : {x : ℕ} {xs : List ℕ} → Under x xs → Ascending xs → Ascending (x ∷ xs)

-- ---- the numbers that are gathered from cells

unfoldable pub added : Option ℕ → List ℕ → List ℕ
added none xs = xs
added (some x) xs = carried x xs

-- each cell gives a number or none, and each number comes to stand in its place
unfoldable pub gathered : (ℕ → Option ℕ) → List ℕ → List ℕ
gathered f [] = []
gathered f (c ∷ cs) = added (f c) (gathered f cs)
