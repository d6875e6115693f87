-- 02, R-2: the two owners of a store, and two lists of events in which the same was done but for the bytes of the values that one of
-- them wrote.
use Rattle.std.specs.Prelude.{ℕ, ◌≡◌, Bool, true, false, List, [], ◌∷◌, length, replicate}
use Rattle.std.proofs.Math.Option.{Option, none, some}
use Rattle.segment.specs.Choice.{both, either}
use Rattle.record.specs.declared.Tables.{Tables}
use Rattle.model.specs.Operations.{Operation, write, delete, clean}
use Rattle.record.specs.Reach.{holds_table}
use Rattle.model.specs.Refused.{Terms}
use Rattle.history.specs.Book.{reads, reads_value, tells, fewest, Call, starts, steps, switches, asks, recovers, Answer, Event, called, cut, scans, scans_value, converts, joins}

-- Who made a call. Steps, cleanings, switches, recoveries and cuts are common; it does not matter whose they are said to be.
pub data Owner : Type 0 where
  servo media : Owner

-- ---- the same input

-- A call with every byte of the value that it writes 0, so that of the value only the length is left.
unfoldable pub blanked_operation : Operation → Operation
blanked_operation (write k value) = write k (replicate (length value) 0)
blanked_operation (delete k) = delete k
blanked_operation (clean victims) = clean victims

unfoldable pub blanked : Call → Call
blanked (starts q o) = starts q (blanked_operation o)
blanked steps = steps
blanked switches = switches
blanked (asks q) = asks q
blanked (recovers n s order) = recovers n s order

-- Servo's calls are the same with all their arguments; media's are the same but for value bytes.
unfoldable pub SameCall : Owner → Call → Call → Type 0
SameCall servo c c' = c ≡ c'
SameCall media c c' = blanked c ≡ blanked c'

-- Two events have the same input: the same call with memory of the same lengths lent to it, or both are cuts. Nothing is said of
-- their answers.
unfoldable pub SameInput : Owner → Event → Event → Type 0
SameInput who (called c lent a) (called c' lent' a') = SameCall who c c' × (lent ≡ lent')
SameInput who (called c lent a) cut = ⊥
SameInput who cut (called c lent a) = ⊥
SameInput who cut cut = Unit

-- one event after the other, each with its owner
unfoldable pub SameInputs : List Owner → List Event → List Event → Type 0
SameInputs [] [] [] = Unit
SameInputs (who ∷ owners) (e ∷ es) (e' ∷ es') = SameInput who e e' × SameInputs owners es es'
SameInputs [] (e ∷ es) es' = ⊥
SameInputs [] [] (e' ∷ es') = ⊥
SameInputs (who ∷ owners) [] es' = ⊥
SameInputs (who ∷ owners) (e ∷ es) [] = ⊥

-- ---- the same answer

-- An answer without the bytes that it gives: all its numbers, which are refusals, stores, versions, kinds and the place that is told.
abbrev pub numbers_of : Answer → Answer
numbers_of a = record { said = a.said; value = []; place = a.place }

abbrev pub SameNumbers : Answer → Answer → Type 0
SameNumbers a a' = numbers_of a ≡ numbers_of a'

-- Servo gets the same answer, the value that it reads among it. What the next step will store is the one call whose bytes are nobody's
-- answer: who drives the device makes it for both owners, and while a write of media's or a cleaning is pending the byte may be one of
-- media's values. Of it all numbers are the same. A conversion answers its number alone; the image that it writes, with the values of both,
-- goes into memory that is lent to it and is nobody's answer either (02, R-12).
unfoldable pub SameToServo : Call → Answer → Answer → Type 0
SameToServo (starts q o) a a' = a ≡ a'
SameToServo steps a a' = a ≡ a'
SameToServo switches a a' = a ≡ a'
SameToServo (asks (reads t k)) a a' = a ≡ a'
SameToServo (asks (reads_value t k)) a a' = a ≡ a'
SameToServo (asks tells) a a' = SameNumbers a a'
SameToServo (asks fewest) a a' = a ≡ a'
SameToServo (asks joins) a a' = a ≡ a'
SameToServo (asks (scans n s t k)) a a' = a ≡ a'
SameToServo (asks (scans_value n s t k)) a a' = a ≡ a'
SameToServo (asks (converts n s)) a a' = a ≡ a'
SameToServo (recovers n s order) a a' = a ≡ a'

-- Of media's answers all numbers are the same.
unfoldable pub SameAnswer : Owner → Event → Event → Type 0
SameAnswer servo (called c lent a) (called c' lent' a') = SameToServo c a a'
SameAnswer media (called c lent a) (called c' lent' a') = SameNumbers a a'
SameAnswer who (called c lent a) cut = ⊥
SameAnswer who cut (called c lent a) = ⊥
SameAnswer who cut cut = Unit

unfoldable pub SameAnswers : List Owner → List Event → List Event → Type 0
SameAnswers [] [] [] = Unit
SameAnswers (who ∷ owners) (e ∷ es) (e' ∷ es') = SameAnswer who e e' × SameAnswers owners es es'
SameAnswers [] (e ∷ es) es' = ⊥
SameAnswers [] [] (e' ∷ es') = ⊥
SameAnswers (who ∷ owners) [] es' = ⊥
SameAnswers (who ∷ owners) (e ∷ es) [] = ⊥

-- ---- the ranges that an owner gives

unfoldable pub same_owner : Owner → Owner → Bool
same_owner servo servo = true
same_owner servo media = false
same_owner media servo = false
same_owner media media = true

-- the range given with a call; only reads, writes and deletes are given one
unfoldable pub start_range : Terms → Operation → Option Tables
start_range q (write k value) = some q.tables
start_range q (delete k) = some q.tables
start_range q (clean victims) = none

unfoldable pub range_of : Event → Option Tables
range_of (called (starts q o) lent a) = start_range q o
range_of (called steps lent a) = none
range_of (called switches lent a) = none
range_of (called (asks (reads given k)) lent a) = some given
range_of (called (asks (reads_value given k)) lent a) = some given
range_of (called (asks tells) lent a) = none
range_of (called (asks fewest) lent a) = none
range_of (called (asks (scans n s given k)) lent a) = some given
range_of (called (asks (scans_value n s given k)) lent a) = some given
range_of (called (asks (converts n s)) lent a) = none
range_of (called (asks joins) lent a) = none
range_of (called (recovers n s order) lent a) = none
range_of cut = none

-- whether it holds a table
unfoldable pub range_holds : Option Tables → ℕ → Bool
range_holds none t = false
range_holds (some given) t = holds_table given t

-- whether that owner gives, anywhere in the list, a range that holds a table
unfoldable pub gives : Owner → List Owner → List Event → ℕ → Bool
gives who [] es t = false
gives who (o ∷ owners) [] t = false
gives who (o ∷ owners) (e ∷ es) t = either (both (same_owner who o) (range_holds (range_of e) t)) (gives who owners es t)

-- The ranges given by servo share no table with those given by media; an owner may give another range with each call.
abbrev pub NoTableShared : List Owner → List Event → Type 0
NoTableShared owners es = (t : ℕ) → gives servo owners es t ≡ true → gives media owners es t ≡ true → ⊥
