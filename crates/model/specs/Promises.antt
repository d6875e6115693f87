-- 01, "What a contract says": what each call promises, for every input. Each relation below is a contract word for word, and a
-- transition of the runs over which the whole promise about cuts is stated.
use Rattle.std.specs.Prelude.{ℕ, zero, suc, ◌+◌, ◌-◌, ◌≤◌, ◌<◌, ◌≡◌, List, [], ◌⊎◌, eqb, length, get_or, take, drop, set, replicate, Ok, Err}
use Rattle.std.proofs.Math.Option.{Option, none, some}
use Rattle.std.proofs.lemmas.List.Edits.{sets}
use Rattle.std.specs.Borrow.{Bor}
use Rattle.word.specs.Number.{Bytes}
use Rattle.segment.specs.Choice.{pick}
use Rattle.segment.specs.Layout.{Layout, layout_numbered, entry_size}
use Rattle.segment.specs.Entry.{bytes_in}
use Rattle.segment.specs.declared.Key.{Key}
use Rattle.record.specs.Answers.{Said, taken, taken_with, refusal, said_by, format_said, recover_said, read_said, start_said, step_said, tell_said, with_pending}
use Rattle.record.specs.Switch.{unswitched, as_recovered}
use Rattle.record.specs.declared.Refusal.{Refusal}
use Rattle.record.specs.Refusals.{number_of_refusal}
use Rattle.record.specs.declared.Record.{Record}
use Rattle.record.specs.declared.Tables.{Tables}
use Rattle.record.specs.Answered.{FormatAnswer, Recovery, RecoverAnswer, Reading, ReadAnswer, Start, StartAnswer, Stepped, StepAnswer, Foretold, TellAnswer}
use Rattle.record.specs.declared.Progress.{Progress}
use Rattle.model.specs.Log.{Placed, place_of, placed_kind, present}
use Rattle.model.specs.Causes.{Cause, first_cause}
use Rattle.model.specs.Recovery.{recovered, recovery, recover_causes}
use Rattle.model.specs.Index.{IndexRule}
use Rattle.model.specs.Operations.{Operation, Typed, log_now, laid, plan_for, stores_for, started_record, stored, told_version, finished_record, formatted_as}
use Rattle.model.specs.Refused.{Lengths, Terms, freely, format_causes, reach_causes, read_causes, early_causes, start_causes, step_causes, tell_causes}

-- Each answer is fixed twice over, in two languages: as the value that the call returns, and (`says`) as the number and values
-- that 01 gives it, by the definitions that the events of a list and the book use.

-- ---- the stores on which a call promises its whole answer

-- The record, its pending operation and its switch aside (02, R-13), is what recovery of this area gives, and the index keeps its rule.
pub record Genuine (L : Layout) (area : List ℕ) (r : Record) (cells : List ℕ) : Type 0 where
  pub recovers : recovered L r.slots r.size r.cells area ≡ some (as_recovered r)
  pub rule : IndexRule r.size (log_now area r) cells

-- The pending operation is one that was started on this store, and steps alone were made since: `idle` was the record and `before` the
-- area, `since` stores of the plan are done, and the work buffer still begins with the operation's bytes. What its call asked for
-- besides has left no trace: whatever is accepted on terms is accepted without any.
pub record Started (L : Layout) (area : List ℕ) (r : Record) (work : List ℕ) : Type 0 where
  pub operation : Operation
  pub before : List ℕ
  pub idle : Record
  pub since : ℕ
  pub lengths : Lengths
  pub typed : Typed operation
  pub area-bytes : Bytes before
  pub recovers : recovered L idle.slots idle.size idle.cells before ≡ some (unswitched idle)
  pub accepted : first_cause (start_causes L idle (log_now before idle) lengths freely operation) ≡ none
  pub some_left : since < stores_for L idle (log_now before idle) operation
  pub record-now :
      r ≡ with_pending idle ((laid L idle (log_now before idle) operation).pending (stores_for L idle (log_now before idle) operation - since))
  pub area-now : area ≡ stored before (take since (plan_for L idle (log_now before idle) operation))
  pub work-now : take (length (laid L idle (log_now before idle) operation).bytes) work ≡ (laid L idle (log_now before idle) operation).bytes

-- The whole answer of a call with a record is promised where one of its first causes holds, which need no look at the log (4 by range
-- and lengths, and 22), and where record and index are genuine.
abbrev pub Settled : Layout → List ℕ → Record → List ℕ → List Cause → Type 0
Settled L area r cells early = ((c : Refusal) × (first_cause early ≡ some c)) ⊎ Genuine L area r cells

-- ---- format

unfoldable pub format_answer : Option Refusal → FormatAnswer
format_answer none = (Ok tt)
format_answer (some c) = Err c

unfoldable pub area_unless : Option Refusal → List ℕ → List ℕ → List ℕ
area_unless none new old = new
area_unless (some c) new old = old

-- Accepted or its number; where refused, the area stays. The edition is told by its number e.
pub record FormatPromise (e n s : ℕ) (area area' : List ℕ) (a : FormatAnswer) : Type 0 where
  pub answers : a ≡ format_answer (first_cause (format_causes e n s (length area)))
  pub says : format_said a ≡ said_by (first_cause (format_causes e n s (length area))) taken
  pub leaves : area' ≡ area_unless (first_cause (format_causes e n s (length area))) (formatted_as (layout_numbered e) n s area) area

-- ---- recovery

-- The index is untouched where recovery is refused, but all 0 at 20, and keeps the rule where it is accepted.
unfoldable pub IndexAfter : List ℕ → List ℕ → List ℕ → Recovery → RecoverAnswer → Type 0
IndexAfter area cells cells' r (Ok u) = IndexRule r.rec.size (log_now area r.rec) cells'
IndexAfter area cells cells' r (Err c) = cells' ≡ pick (eqb (number_of_refusal c) 20) (replicate (length cells) 0) cells

-- The record or the first cause, whatever the order of the slots.
pub record RecoverPromise (L : Layout) (n s : ℕ) (order area cells cells' : List ℕ) (r : Recovery) : Type 0 where
  pub answers : r ≡ recovery L n s (length cells) order area
  pub says : recover_said r.answer ≡ said_by (first_cause (recover_causes L n s (length cells) order area)) taken
  pub same_length : length cells' ≡ length cells
  pub index : IndexAfter area cells cells' r r.answer

-- ---- read

-- The kind is the one that stands in the object's own slot.
unfoldable pub present_answer : Option Placed → ReadAnswer
present_answer none = Ok (record { version = (record { 0 = 0 }); kind = 0 })
present_answer (some x) = Ok (record { version = (record { 0 = x.entry.version }); kind = (placed_kind x) })

unfoldable pub read_answer : Option Refusal → Option Placed → ReadAnswer
read_answer none x = present_answer x
read_answer (some c) x = Err c

-- what a read of that object says: its version and kind
unfoldable pub object_said : Option Placed → Said
object_said none = taken
object_said (some x) = record { refused = 0; stores = 0; version = x.entry.version; kind = placed_kind x }

abbrev pub read_lengths : List ℕ → List ℕ → Lengths
read_lengths area cells = record { area = length area; index = length cells; work = 0 }

-- The version and kind of the key's object, or 4, 22 or 8; the record is handed back. A record that fails the tests of range and
-- length, and a table out of reach, are refused whatever the log holds. Reads are allowed while an operation is pending, and need no
-- work buffer.
pub record ReadPromise (L : Layout) (r : Record) (area cells : List ℕ) (t : Tables) (k : Key) (a : Reading) : Type 0 where
  pub hands-back : a.rec ≡ r
  pub early : (c : Refusal) → first_cause (reach_causes L r (read_lengths area cells) t k) ≡ some c → a.answer ≡ Err c
  pub exact :
      Genuine L area r cells → a.answer ≡
      read_answer (first_cause (read_causes L r (log_now area r) (read_lengths area cells) t k)) (present (log_now area r) k)
  pub says :
      Settled L area r cells (reach_causes L r (read_lengths area cells) t k) → read_said a.answer ≡
      said_by (first_cause (read_causes L r (log_now area r) (read_lengths area cells) t k)) (object_said (present (log_now area r) k))

-- A part of the area: the place at which it starts, and how many bytes it has.
pub record Part : Type 0 where
  pub place : ℕ
  pub bytes : ℕ

-- what stands there
abbrev pub part_of : List ℕ → Part → List ℕ
part_of area p = take p.bytes (drop p.place area)

-- no bytes, at place 0
abbrev pub nowhere : Part
nowhere = record { place = 0; bytes = 0 }

-- An object's value is the part of the area behind what comes before it in its entry. Beside a refusal stands the part of no bytes at
-- place 0.
unfoldable pub value_part : ℕ → Option Placed → Part
value_part S none = nowhere
value_part S (some x) = record { place = place_of S x + entry_size x.layout 0; bytes = length (bytes_in x.entry.value) }

unfoldable pub value_answer : ℕ → Option Refusal → Option Placed → Part
value_answer S none x = value_part S x
value_answer S (some c) x = nowhere

abbrev pub promised_part : Layout → Record → List ℕ → List ℕ → Tables → Key → Part
promised_part L r area cells t k =
    value_answer r.size (first_cause (read_causes L r (log_now area r) (read_lengths area cells) t k)) (present (log_now area r) k)

-- Which part of the area the value is.
pub record ValuePromise (L : Layout) (r : Record) (area cells : List ℕ) (t : Tables) (k : Key) (p : Part) : Type 0 where
  pub early : (c : Refusal) → first_cause (reach_causes L r (read_lengths area cells) t k) ≡ some c → p ≡ nowhere
  pub exact : Genuine L area r cells → p ≡ promised_part L r area cells t k

-- A reference to that part of what another reference refers to: the part lies within it, the reference points so many bytes behind the
-- other's start, and has these bytes.
pub record RefersTo (part whole : Bor (List ℕ)) (p : Part) : Type 0 where
  pub inside : p.place + p.bytes ≤ length whole.now
  pub same_block : part.ref_ptr.0 ≡ whole.ref_ptr.0
  pub starts : part.ref_ptr.1 ≡ p.place + whole.ref_ptr.1
  pub holds : part.now ≡ part_of whole.now p

-- The value as a reference into the lent area: to the part that is promised, and to no other bytes that happen to be equal.
pub record ValueReference (L : Layout) (r : Record) (area : Bor (List ℕ)) (cells : List ℕ) (t : Tables) (k : Key) (value : Bor (List ℕ)) : Type 0 where
  pub part : Part
  pub refers : RefersTo value area part
  pub promised : ValuePromise L r area.now cells t k part

-- ---- write, delete and clean

-- What a start leaves: its answer with the record, and the work buffer.
pub record Begun : Type 0 where
  pub start : Start
  pub work : List ℕ

-- Refused, nothing changes. Accepted, the answer is the number of stores to come, the operation is pending, and the work
-- buffer is filled from its first byte.
unfoldable pub begun : Layout → Record → List Placed → Operation → List ℕ → Option Refusal → Begun
begun L r log o work none =
    record {
      start = record { answer = Ok (stores_for L r log o); rec = started_record L r log o };
      work = sets work 0 (laid L r log o).bytes;
    }
begun L r log o work (some c) = record { start = record { answer = Err c; rec = r }; work = work }

abbrev pub lent_lengths : List ℕ → List ℕ → List ℕ → Lengths
lent_lengths area cells work = record { area = length area; index = length cells; work = length work }

-- One promise for the three starts, on any terms. Of an area that is only read nothing has to be said.
pub record StartPromise (L : Layout) (t : Terms) (o : Operation) (r : Record) (area cells work work' : List ℕ) (a : Start) : Type 0 where
  pub same_length : length work' ≡ length work
  pub early :
      (c : Refusal) → first_cause (early_causes L r (lent_lengths area cells work) t o) ≡ some c →
      record { start = a; work = work' } ≡ begun L r [] o work (some c)
  pub exact :
      Genuine L area r cells → record { start = a; work = work' } ≡
      begun L r (log_now area r) o work (first_cause (start_causes L r (log_now area r) (lent_lengths area cells work) t o))
  pub says :
      Settled L area r cells (early_causes L r (lent_lengths area cells work) t o) → start_said a.answer ≡
      said_by (first_cause (start_causes L r (log_now area r) (lent_lengths area cells work) t o)) (taken_with (stores_for L r (log_now area r) o))

-- ---- step

-- one byte of the area, at the most, is another
abbrev pub OneByte : List ℕ → List ℕ → Type 0
OneByte area area' = (p : ℕ) × (b : ℕ) × (area' ≡ set area p b)

-- Where a step is refused nothing changes.
pub record StepRefused (r : Record) (area area' cells cells' : List ℕ) (a : Stepped) (c : Refusal) : Type 0 where
  pub answers : a ≡ record { answer = Err c; rec = r }
  pub says : step_said a.answer ≡ refusal (number_of_refusal c)
  pub area_same : area' ≡ area
  pub index_same : cells' ≡ cells

-- The answer and the record of a step after which `left` stores are left.
unfoldable pub stepped : Layout → List ℕ → Record → Operation → ℕ → Stepped
stepped L before idle o zero =
    record { answer = Ok (Progress.Done (record { 0 = told_version idle o })); rec = finished_record L before idle o }
stepped L before idle o (suc k) =
    record {
      answer = Ok (Progress.Left (suc k));
      rec = with_pending idle ((laid L idle (log_now before idle) o).pending (suc k));
    }

-- what it says: the stores left, and at the last one the version
unfoldable pub step_says : Record → Operation → ℕ → Said
step_says idle o zero = record { refused = 0; stores = 0; version = told_version idle o; kind = 0 }
step_says idle o (suc k) = taken_with (suc k)

-- The index stays until the last step, and then keeps the rule for the new log.
unfoldable pub IndexStepped : List ℕ → List ℕ → List ℕ → Record → ℕ → Type 0
IndexStepped area' cells cells' r zero = IndexRule r.size (log_now area' r) cells'
IndexStepped area' cells cells' r (suc k) = cells' ≡ cells

abbrev pub left_after : (L : Layout) (area : List ℕ) (r : Record) (work : List ℕ) → Started L area r work → ℕ
left_after L area r work s = stores_for L s.idle (log_now s.before s.idle) s.operation - suc s.since

-- A step of a started operation does the one store that comes next in the plan.
pub record StepExact (L : Layout) (r : Record) (area area' cells cells' work : List ℕ) (a : Stepped) (s : Started L area r work) : Type 0 where
  pub stores :
      area' ≡ stored s.before (take (suc s.since) (plan_for L s.idle (log_now s.before s.idle) s.operation))
  pub answers : a ≡ stepped L s.before s.idle s.operation (left_after L area r work s)
  pub says : step_said a.answer ≡ step_says s.idle s.operation (left_after L area r work s)
  pub index : IndexStepped area' cells cells' a.rec (left_after L area r work s)

pub record StepPromise (L : Layout) (r : Record) (area area' cells cells' work : List ℕ) (a : Stepped) : Type 0 where
  pub one_byte : OneByte area area'
  pub same_length : length cells' ≡ length cells
  pub refused : (c : Refusal) → first_cause (step_causes L r (lent_lengths area cells work)) ≡ some c → StepRefused r area area' cells cells' a c
  pub exact :
      first_cause (step_causes L r (lent_lengths area cells work)) ≡ none → Genuine L area r cells → (s : Started L area r work) →
      StepExact L r area area' cells cells' work a s

-- ---- the next store told, for a medium that is no memory

abbrev pub tell_lengths : List ℕ → List ℕ → Lengths
tell_lengths area work = record { area = length area; index = 0; work = length work }

-- the store of a started operation whose turn it is: the next element of its plan
abbrev pub turn_of : (L : Layout) (area : List ℕ) (r : Record) (work : List ℕ) → Started L area r work → ℕ × ℕ
turn_of L area r work s = get_or (plan_for L s.idle (log_now s.before s.idle) s.operation) s.since (0, 0)

-- Record, area and work buffer are only read. Where a cause of the step holds that needs no index, the first of them is told; else, of a
-- started operation, place and byte of the store that its next step makes. Whatever is told lies in the area.
pub record TellPromise (L : Layout) (r : Record) (area work : List ℕ) (a : Foretold) : Type 0 where
  pub hands-back : a.rec ≡ r
  pub refused : (c : Refusal) → first_cause (tell_causes L r (tell_lengths area work)) ≡ some c → a.answer ≡ Err c
  pub exact :
      first_cause (tell_causes L r (tell_lengths area work)) ≡ none → (s : Started L area r work) →
      a.answer ≡ Ok (record { place = (turn_of L area r work s).0; byte = (turn_of L area r work s).1 })
  pub inside : (place byte : ℕ) → a.answer ≡ Ok (record { place = place; byte = byte }) → place < length area
  pub says :
      ((c : Refusal) × (first_cause (tell_causes L r (tell_lengths area work)) ≡ some c)) ⊎ Started L area r work →
      tell_said a.answer ≡ said_by (first_cause (tell_causes L r (tell_lengths area work))) taken
