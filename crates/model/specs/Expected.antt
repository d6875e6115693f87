-- What the rows of the tables expect, by name: the numbers that a call says, and those of a record with N 4, S 256 and M 16.
use Rattle.std.specs.Prelude.{ℕ, List, [], ◌∷◌, ◌++◌}

pub record Holding : Type 0 where
  pub head : ℕ
  pub end : ℕ
  pub digest : ℕ
  pub map : ℕ
  pub next : ℕ
  pub keys : ℕ
  pub left : ℕ

abbrev pub holds : Holding → List ℕ
holds h = 4 ∷ 256 ∷ 16 ∷ h.head ∷ h.end ∷ h.digest ∷ h.map ∷ h.next ∷ h.keys ∷ h.left ∷ []

-- an accepted recovery with its record
abbrev pub gives : Holding → List ℕ
gives h = 0 ∷ holds h

-- a refusal's number, without values
abbrev pub refused_by : ℕ → List ℕ
refused_by n = n ∷ 0 ∷ 0 ∷ 0 ∷ []

-- a start with so many stores to come, a step with so many left, a last step with its version
abbrev pub to_come : ℕ → List ℕ
to_come k = 0 ∷ k ∷ 0 ∷ 0 ∷ []

abbrev pub remaining : ℕ → List ℕ
remaining k = 0 ∷ k ∷ 0 ∷ 0 ∷ []

abbrev pub done : ℕ → List ℕ
done v = 0 ∷ 0 ∷ v ∷ 0 ∷ []

-- a read of an object with its version, kind and value
abbrev pub shows : ℕ → ℕ → List ℕ → List ℕ
shows v kind value = 0 ∷ 0 ∷ v ∷ kind ∷ value
