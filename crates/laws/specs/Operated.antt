-- What an accepted operation does to the store: the statements. Each is proved in a file of its own, and together they are all that
-- the promise about cuts needs of the log.
use Rattle.std.specs.Prelude.{ℕ, ◌+◌, ◌-◌, ◌≤◌, ◌<◌, ◌≡◌, true, false, List, [], length, take}
use Rattle.std.proofs.Math.Option.{Option, none, some}
use Rattle.word.specs.Number.{Bytes}
use Rattle.segment.specs.Choice.{pick}
use Rattle.segment.specs.Layout.{Layout}
use Rattle.segment.specs.Entry.{Entry, bytes_in}
use Rattle.segment.specs.declared.Key.{Key}
use Rattle.slot_map.specs.Bit.{named}
use Rattle.record.specs.Range.{cells_good, fits_lent}
use Rattle.record.specs.Switch.{unswitched}
use Rattle.record.specs.declared.Record.{Record}
use Rattle.laws.specs.Headed.{SlotOrigin}
use Rattle.laws.specs.MapLaws.{value_at}
use Rattle.model.specs.Log.{Placed, views_of, present, same_key}
use Rattle.model.specs.Causes.{first_cause}
use Rattle.model.specs.Recovery.{recovered, record_from, geometry_bad}
use Rattle.model.specs.Operations.{Operation, write, delete, clean, Typed, log_now, written_entry, tombstone_entry, laid, plan_for, stored, finished_record, formatted}
use Rattle.model.specs.Promises.{part_of, value_part}
use Rattle.model.specs.Refused.{Lengths, freely, start_causes}

-- An operation that a start accepts on the record which recovery of an area of bytes gives, switched or not (02, R-13).
pub record Accepted (L : Layout) (before : List ℕ) (idle : Record) (o : Operation) : Type 0 where
  pub lengths : Lengths
  pub area-bytes : Bytes before
  pub typed : Typed o
  pub recovers : recovered L idle.slots idle.size idle.cells before ≡ some (unswitched idle)
  pub no-cause : first_cause (start_causes L idle (log_now before idle) lengths freely o) ≡ none

abbrev pub plan_at : Layout → List ℕ → Record → Operation → List (ℕ × ℕ)
plan_at L before idle o = plan_for L idle (log_now before idle) o

-- The map that an operation leaves, from the map before it: the key set, the key gone, or every key as it was.
unfoldable pub map_after : Record → Operation → (Key → Option Entry) → Key → Option Entry
map_after idle (write k value) old j = pick (same_key j (written_entry idle k value)) (some (written_entry idle k value)) (old j)
map_after idle (delete k) old j = pick (same_key j (tombstone_entry idle k)) none (old j)
map_after idle (clean victims) old j = old j

-- All that the promise about cuts needs of the log, for a layout.
pub record OperationLaws (L : Layout) : Type 0 where
  -- After every proper prefix of an operation's stores the recovered record and the log are the old ones.
  pub prefix-recovers :
      (before : List ℕ) (idle : Record) (o : Operation) → Accepted L before idle o → (k : ℕ) → k < length (plan_at L before idle o) →
      recovered L idle.slots idle.size idle.cells (stored before (take k (plan_at L before idle o))) ≡ some (unswitched idle)
  pub prefix-log :
      (before : List ℕ) (idle : Record) (o : Operation) → Accepted L before idle o → (k : ℕ) → k < length (plan_at L before idle o) →
      log_now (stored before (take k (plan_at L before idle o))) idle ≡ log_now before idle
  -- Every prefix, and the whole plan, leaves bytes.
  pub plan-bytes :
      (before : List ℕ) (idle : Record) (o : Operation) → Accepted L before idle o → (k : ℕ) →
      Bytes (stored before (take k (plan_at L before idle o)))
  -- After the whole plan recovery gives the record of 01's own formulas, the switch aside; its edition is that of the head then.
  pub finish-recovers :
      (before : List ℕ) (idle : Record) (o : Operation) → Accepted L before idle o →
      recovered (finished_record L before idle o).edition idle.slots idle.size idle.cells (stored before (plan_at L before idle o)) ≡
      some (unswitched (finished_record L before idle o))
  -- Demand 2.
  pub finish-map :
      (before : List ℕ) (idle : Record) (o : Operation) → Accepted L before idle o → (j : Key) →
      value_at (log_now (stored before (plan_at L before idle o)) (finished_record L before idle o)) j ≡
      map_after idle o (value_at (log_now before idle)) j
  -- A log slot keeps its edition over every proper prefix; behind the last store each is of the edition that the head has, or is one of before
  -- as it was.
  pub prefix-slots :
      (before : List ℕ) (idle : Record) (o : Operation) → Accepted L before idle o → (k : ℕ) → k < length (plan_at L before idle o) →
      (i : ℕ) → named idle.map i ≡ true →
      (views_of (stored before (take k (plan_at L before idle o))) idle.size i).layout ≡ (views_of before idle.size i).layout
  pub finish-slots :
      (before : List ℕ) (idle : Record) (o : Operation) → Accepted L before idle o → (i : ℕ) → i < idle.slots →
      named (finished_record L before idle o).map i ≡ true →
      SlotOrigin idle (views_of before idle.size) (views_of (stored before (plan_at L before idle o)) idle.size) (finished_record L before idle o).edition i
  -- An operation has from 1 to S + 1 stores, and its bytes fit a segment.
  pub some-stores : (before : List ℕ) (idle : Record) (o : Operation) → Accepted L before idle o → 0 < length (plan_at L before idle o)
  pub few-stores :
      (before : List ℕ) (idle : Record) (o : Operation) → Accepted L before idle o → length (plan_at L before idle o) ≤ idle.size + 1
  pub bytes_fit :
      (before : List ℕ) (idle : Record) (o : Operation) → Accepted L before idle o →
      length (laid L idle (log_now before idle) o).bytes ≤ idle.size
  -- A recovered record passes the tests of range and length with the area and the cells that it was recovered from.
  pub own-lengths :
      (n s m : ℕ) (area : List ℕ) (r : Record) → Bytes area → recovered L n s m area ≡ some r → fits_lent L r (length area) m ≡ true
  -- More cells change nothing but the number of cells.
  pub more-cells :
      (n s m k : ℕ) (area : List ℕ) → recovered L n s m area ≡ some (record_from L n s m area) → cells_good k ≡ true → m ≤ k →
      recovered L n s k area ≡ some (record_from L n s k area)
  -- Every version in the log is below the next version, and a key's value is a part of the area.
  pub version_below :
      (area : List ℕ) (r : Record) → recovered L r.slots r.size r.cells area ≡ some r → (k : Key) (x : Placed) →
      present (log_now area r) k ≡ some x → x.entry.version < r.next.0
  pub value-part :
      (area : List ℕ) (r : Record) → Bytes area → recovered L r.slots r.size r.cells area ≡ some r → (k : Key) (x : Placed) →
      present (log_now area r) k ≡ some x → part_of area (value_part r.size (some x)) ≡ bytes_in x.entry.value
  -- A fresh area has an empty log and next version 1, at any number of cells.
  pub format-bytes : (n s : ℕ) (area : List ℕ) → Bytes area → Bytes (formatted L n s area)
  pub format-recovers :
      (n s m : ℕ) (area : List ℕ) → geometry_bad n s (length area) ≡ false → cells_good m ≡ true →
      recovered L n s m (formatted L n s area) ≡ some (record_from L n s m (formatted L n s area))
  pub format-log :
      (n s m : ℕ) (area : List ℕ) → geometry_bad n s (length area) ≡ false →
      (log_now (formatted L n s area) (record_from L n s m (formatted L n s area)) ≡ []) ×
      ((record_from L n s m (formatted L n s area)).next.0 ≡ 1)
