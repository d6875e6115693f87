-- Tables of worked cases. A row holds what the definitions compute and what is expected, both as numbers. One test is computed over
-- the rows, which of them fail, and a law turns it into the equation of every row.
use Rattle.std.specs.Prelude.{ℕ, ◌≡◌, refl, Bool, true, false, List, [], ◌∷◌, ◌++◌, eqb}
use Rattle.std.proofs.Common.{ap, ap₂, ◌∙◌, arith, eqb-true}
use Rattle.segment.specs.Choice.{pick, both}

-- A row has a number by which a check that fails names it.
pub record Row : Type 0 where
  pub number : ℕ
  pub computed : List ℕ
  pub expected : List ℕ

abbrev pub row : ℕ → List ℕ → List ℕ → Row
row n c e = record { number = n; computed = c; expected = e }

unfoldable pub same : List ℕ → List ℕ → Bool
same [] [] = true
same [] (y ∷ ys) = false
same (x ∷ xs) [] = false
same (x ∷ xs) (y ∷ ys) = both (eqb x y) (same xs ys)

-- the numbers of the rows that fail
unfoldable pub failing : List Row → List ℕ
failing [] = []
failing (r ∷ rs) = pick (same r.computed r.expected) (failing rs) (r.number ∷ failing rs)

-- the equations of all rows
abbrev pub Hold : List Row → Type 0
Hold [] = Unit
Hold (r ∷ rs) = (r.computed ≡ r.expected) × Hold rs
