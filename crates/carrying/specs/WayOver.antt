-- 02, R-13: the way over. A store that is switched has slots of the first edition until each has been cleaned. Where what a cleaning of each
-- alone keeps, rewritten, fits one new head, and the digest number leaves room, they can be cleaned one after the other in any order, and then
-- none is left.
use Rattle.std.specs.Prelude.{ℕ, ◌+◌, ◌^◌, ◌≤◌, ◌<◌, ◌≡◌, true, false, List, [], ◌∷◌, length}
use Rattle.std.proofs.Math.Option.{none, some}
use Rattle.word.specs.Number.{Bytes}
use Rattle.segment.specs.Layout.{Layout, edition1, edition2, number_limit}
use Rattle.slot_map.specs.Bit.{named}
use Rattle.record.specs.Switch.{new_layout, unswitched}
use Rattle.record.specs.declared.Record.{Record}
use Rattle.model.specs.Log.{views_of}
use Rattle.model.specs.Causes.{first_cause}
use Rattle.model.specs.Recovery.{recovered}
use Rattle.model.specs.Operations.{clean, log_now, plan_for, stored, finished_record}
use Rattle.model.specs.Refused.{Lengths, freely, kept_too_long, kept_length, start_causes}
use Rattle.laws.specs.Members.{In, Once}

-- A slot of the log that is of the first edition.
pub record Old (area : List ℕ) (r : Record) (i : ℕ) : Type 0 where
  pub below : i < r.slots
  pub in-log : named r.map i ≡ true
  pub first : (views_of area r.size i).layout ≡ edition1

-- What a cleaning of that slot alone keeps fits one new head: it does not meet 14. A start says so, and changes nothing but the record.
abbrev pub FitsAlone : List ℕ → Record → ℕ → Type 0
FitsAlone area r i = kept_too_long r (kept_length (new_layout r) (log_now area r) (2 ^ i)) ≡ false

-- area and record once slot i has been cleaned
abbrev pub area_then : List ℕ → Record → ℕ → List ℕ
area_then area r i = stored area (plan_for r.edition r (log_now area r) (clean (2 ^ i)))

abbrev pub record_then : List ℕ → Record → ℕ → Record
record_then area r i = finished_record r.edition area r (clean (2 ^ i))

-- and once slots have been cleaned one after the other
unfoldable pub area_behind : List ℕ → List ℕ → Record → List ℕ
area_behind [] area r = area
area_behind (i ∷ is) area r = area_behind is (area_then area r i) (record_then area r i)

unfoldable pub record_behind : List ℕ → List ℕ → Record → Record
record_behind [] area r = r
record_behind (i ∷ is) area r = record_behind is (area_then area r i) (record_then area r i)

-- Each of these cleanings is accepted.
unfoldable pub AllAccepted : Lengths → List ℕ → List ℕ → Record → Type 0
AllAccepted l [] area r = Unit
AllAccepted l (i ∷ is) area r =
    (first_cause (start_causes r.edition r (log_now area r) l freely (clean (2 ^ i))) ≡ none)
    × AllAccepted l is (area_then area r i) (record_then area r i)

-- A store that goes on in the second edition, with what is lent as long as it should be.
pub record Carried (l : Lengths) (area : List ℕ) (r : Record) : Type 0 where
  pub area-bytes : Bytes area
  pub recovers : recovered r.edition r.slots r.size r.cells area ≡ some (unswitched r)
  pub goes_on : new_layout r ≡ edition2
  pub area-lent : l.area ≡ length area
  pub index-lent : l.index ≡ r.cells
  pub work-lent : r.size ≤ l.work

-- For every list that names each old slot once: all cleanings are accepted, and at the end no old slot is left.
abbrev pub WayOver : Type 0
WayOver =
    (l : Lengths) (area : List ℕ) (r : Record) → Carried l area r → (is : List ℕ) → Once is → ((i : ℕ) → In i is → Old area r i) →
    ((i : ℕ) → Old area r i → In i is) → ((i : ℕ) → Old area r i → FitsAlone area r i) → r.digest.0 + length is ≤ number_limit →
    AllAccepted l is area r × ((i : ℕ) → Old (area_behind is area r) (record_behind is area r) i → ⊥)
