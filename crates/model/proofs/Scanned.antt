-- Laws of: 02, R-9: a read, and a read of the value, that scan the log. They take N, S and the area, a range of tables and a key; no record and no
use Rattle.std.specs.Prelude.{ℕ, ◌≡◌, refl, List, [], ◌∷◌, ◌++◌, map, length}
use Rattle.std.specs.Borrow.{Bor}
use Rattle.segment.specs.Layout.{Layout}
use Rattle.segment.specs.declared.Key.{Key}
use Rattle.record.specs.Refusals.{number_of_refusal}
use Rattle.record.specs.declared.Tables.{Tables}
use Rattle.model.specs.Scanned.{scan_causes}

-- These are its numbers in order, whatever the area holds: an image of any number of keys is read.
scan-order :
    (L : Layout) (n s : ℕ) (area : List ℕ) (t : Tables) (k : Key) →
    map (λ c. number_of_refusal c.refusal) (scan_causes L n s area t k) ≡ 1 ∷ 16 ∷ 17 ∷ 24 ∷ 25 ∷ 28 ∷ 18 ∷ 19 ∷ 22 ∷ 8 ∷ []
scan-order L n s area t k = refl
