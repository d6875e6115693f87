-- 01, "The book of a list, for demand 3": what a list of calls and cuts leaves, by the list alone.
use Rattle.std.specs.Prelude.{ℕ, zero, suc, ◌+◌, ◌-◌, max, Bool, List, [], ◌∷◌, eqb, Ok, Err}
use Rattle.std.proofs.Math.Option.{Option, none, some}
use Rattle.segment.specs.Choice.{pick}
use Rattle.segment.specs.declared.Key.{Key}
use Rattle.record.specs.Answers.{Said, taken, refusal, fewest_said, fewest_told}
use Rattle.record.specs.Refusals.{number_of_refusal}
use Rattle.record.specs.Pairs.{PairSaid}
use Rattle.record.specs.declared.Tables.{Tables}
use Rattle.record.specs.Answered.{FewestAnswer, TellAnswer}
use Rattle.model.specs.Log.{same_keys}
use Rattle.model.specs.Operations.{Operation, write, delete, clean}
use Rattle.model.specs.Refused.{Lengths, Terms}

-- A call that changes nothing: a read within some tables, a read of the value, what the next step will store, which slot has the
-- fewest present bytes (02, R-5), which two slots to join (02, R-7), the two reads by scan with N and S (02, R-9), and a conversion of
-- the area with N and S into other memory (02, R-12).
pub data Question : Type 0 where
  reads : Tables → Key → Question
  reads_value : Tables → Key → Question
  tells : Question
  fewest : Question
  joins : Question
  scans : ℕ → ℕ → Tables → Key → Question
  scans_value : ℕ → ℕ → Tables → Key → Question
  converts : ℕ → ℕ → Question

-- A call on the store with its arguments: a start (write, delete or clean) on some terms, a step, the switch to the second edition (02,
-- R-13), a question, a recovery with N, S and the order list.
pub data Call : Type 0 where
  starts : Terms → Operation → Call
  steps : Call
  switches : Call
  asks : Question → Call
  recovers : ℕ → ℕ → List ℕ → Call

-- What a call answers: its numbers, the bytes that it gives, and the place in the area that it tells, 0 where it tells none.
pub record Answer : Type 0 where
  pub said : Said
  pub value : List ℕ
  pub place : ℕ

-- an answer without a value, and a value alone
abbrev pub saying : Said → Answer
saying a = record { said = a; value = []; place = 0 }

abbrev pub giving : List ℕ → Answer
giving v = record { said = taken; value = v; place = 0 }

-- the place and byte of a store, or the refusal
abbrev pub telling : TellAnswer → Answer
telling (Ok s) = record { said = taken; value = s.byte ∷ []; place = s.place }
telling (Err c) = saying (refusal (number_of_refusal c))

-- a slot, where a value has its bytes
abbrev pub naming : FewestAnswer → Answer
naming a = record { said = fewest_said a; value = fewest_told a; place = 0 }

-- two slots, where a value has its bytes
abbrev pub pairing : PairSaid → Answer
pairing p = record { said = refusal p.refused; value = p.first ∷ p.second ∷ []; place = 0 }

-- A call with the lengths of what it was lent and with what it answered, or a cut. Of a call's input only what the lent memory
-- holds is not in its event.
pub data Event : Type 0 where
  called : Call → Lengths → Answer → Event
  cut : Event

-- a call was accepted: it answered no refusal's number
abbrev pub accepted : Answer → Bool
accepted a = eqb a.said.refused 0

-- What the book holds of a key.
pub record Kept : Type 0 where
  pub version : ℕ
  pub value : List ℕ

-- the version that the book has of a key, 0 where it holds nothing of it
unfoldable pub book_version : Option Kept → ℕ
book_version none = 0
book_version (some x) = x.version

-- A pending operation with its stores left.
pub record Awaited : Type 0 where
  pub operation : Operation
  pub left : ℕ

-- The keys with their versions and values, the next version, and what is pending.
pub record Book : Type 0 where
  pub keys : Key → Option Kept
  pub next : ℕ
  pub pending : Option Awaited

-- The book of an area that was just formatted is empty, and the first version is 1.
abbrev pub fresh_book : Book
fresh_book = record { keys = λ k. none; next = 1; pending = none }

-- the keys with one of them set or dropped
abbrev pub with_key : (Key → Option Kept) → Key → Option Kept → (Key → Option Kept)
with_key keys k x j = pick (same_keys j k) x (keys j)

abbrev pub without_pending : Book → Book
without_pending b = record { keys = b.keys; next = b.next; pending = none }

-- The last store of an operation. A write and a delete take a version, and change what the book holds of their key; a cleaning takes
-- none and changes nothing. No operation is pending then.
unfoldable pub finish : Book → Operation → Book
finish b (write k value) =
    record { keys = with_key b.keys k (some (record { version = b.next; value = value })); next = b.next + 1; pending = none }
finish b (delete k) = record { keys = with_key b.keys k none; next = b.next + 1; pending = none }
finish b (clean victims) = without_pending b

-- The version of an operation: the next version, 0 for a cleaning.
unfoldable pub version_for : Book → Operation → ℕ
version_for b (write k value) = b.next
version_for b (delete k) = b.next
version_for b (clean victims) = 0

-- An accepted step takes one store off; at 0 the operation counts.
unfoldable pub one_off : Book → Operation → ℕ → Book
one_off b o zero = finish b o
one_off b o (suc k) = record { keys = b.keys; next = b.next; pending = some (record { operation = o; left = suc k }) }

unfoldable pub take_one : Book → Option Awaited → Book
take_one b none = b
take_one b (some p) = one_off b p.operation (p.left - 1)

-- What an accepted call does to the book, given a start's number of stores: a start is pending with its stores, whatever its terms
-- were; a step takes one off; a recovery drops what is pending. Questions change nothing, and neither does a switch.
unfoldable pub feed_call : Book → Call → ℕ → Book
feed_call b (starts t o) stores = record { keys = b.keys; next = b.next; pending = some (record { operation = o; left = stores }) }
feed_call b steps stores = take_one b b.pending
feed_call b switches stores = b
feed_call b (asks q) stores = b
feed_call b (recovers n s order) stores = without_pending b

-- Of an event the book is told the call with its arguments, whether it was accepted and a start's number of stores, or that there
-- was a cut. A cut drops what is pending; a refused call changes nothing.
unfoldable pub feed : Book → Event → Book
feed b (called c lent a) = pick (accepted a) (feed_call b c a.said.stores) b
feed b cut = without_pending b

unfoldable pub book_after : Book → List Event → Book
book_after b [] = b
book_after b (e ∷ es) = book_after (feed b e) es

-- the book of a list from an accepted format on
abbrev pub book_of : List Event → Book
book_of es = book_after fresh_book es

-- the version that an event told the caller, by a step or a read; 0 where it told none
unfoldable pub version_told : Event → ℕ
version_told (called c lent a) = a.said.version
version_told cut = 0

-- the highest version told in a list
unfoldable pub highest_told : List Event → ℕ
highest_told [] = 0
highest_told (e ∷ es) = max (version_told e) (highest_told es)
