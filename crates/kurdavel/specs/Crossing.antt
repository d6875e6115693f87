-- What each exported function promises, for every input: that the call behind it keeps its own promise on the record that the
-- lent words say, that its answer is the number told, and that its record is what the words say afterwards. Words that are
-- no record say the blank one, which every call refuses with 4; they stay as they are.
use Rattle.std.specs.Prelude.{ℕ, ◌+◌, ◌≤◌, ◌<◌, ◌≡◌, Bool, true, false, List, length, Ok, Err}
use Rattle.std.proofs.lemmas.List.Edits.{sets}
use Rattle.segment.specs.declared.Key.{Key}
use Rattle.record.specs.Answers.{format_said, recover_said, read_said, start_said, step_said, tell_said, fewest_said, convert_said}
use Rattle.record.specs.Switch.{switch_said}
use Rattle.record.specs.declared.Record.{Record}
use Rattle.record.specs.Answered.{FormatAnswer, ConvertAnswer, Recovery, RecoverAnswer, Reading, ReadAnswer, Start, StartAnswer, Stepped, StepAnswer, Fewest, FewestAnswer, Foretold, TellAnswer, Switching}
use Rattle.record.specs.declared.Progress.{Progress}
use Rattle.model.specs.Recovery.{image_layout}
use Rattle.model.specs.Conversion.{ConvertPromise}
use Rattle.model.specs.Fewest.{FewestPromise}
use Rattle.model.specs.Switching.{SwitchPromise}
use Rattle.model.specs.Operations.{Operation}
use Rattle.record.specs.declared.Tables.{Tables}
use Rattle.model.specs.Refused.{Terms}
use Rattle.model.specs.Promises.{FormatPromise, RecoverPromise, ReadPromise, ValuePromise, StartPromise, StepPromise, TellPromise}
use Rattle.telling.specs.Told.{told_by}
use Rattle.stepping.specs.Tested.{StepTested}
use Rattle.words.specs.Words.{record_words, words_of, is_record, record_in, decoded}
use Rattle.model.specs.Scanned.{ScanPromise, ScanValue}

-- the words after a call that handed this record back
unfoldable pub kept_words : Bool → List ℕ → Record → List ℕ
kept_words true words r = sets words 0 (words_of r)
kept_words false words r = words

-- ---- format and recovery

pub record FormatCrossed (e n s : ℕ) (area area' : List ℕ) (number : ℕ) : Type 0 where
  pub answer : FormatAnswer
  pub promised : FormatPromise e n s area area' answer
  pub numbered : number ≡ (format_said answer).refused

-- the record's words after a recovery
unfoldable pub words_after : RecoverAnswer → List ℕ → Record → List ℕ
words_after (Ok u) words r = sets words 0 (words_of r)
words_after (Err c) words r = words

pub record Recovers (n s : ℕ) (order area cells cells' words words' : List ℕ) (number : ℕ) : Type 0 where
  pub recovery : Recovery
  pub promised : RecoverPromise (image_layout n s area) n s order area cells cells' recovery
  pub numbered : number ≡ (recover_said recovery.answer).refused
  pub says : words' ≡ words_after recovery.answer words recovery.rec
  pub long : recovery.answer ≡ (Ok tt) → length recovery.rec.counts ≡ 32

-- Where the record has no room, 4, and all stays.
pub record TooShort (cells cells' words words' : List ℕ) (number : ℕ) : Type 0 where
  pub numbered : number ≡ 4
  pub index_same : cells' ≡ cells
  pub words_same : words' ≡ words

pub record RecoverCrossed (n s : ℕ) (order area cells cells' words words' : List ℕ) (number : ℕ) : Type 0 where
  pub short : length words < record_words → TooShort cells cells' words words' number
  pub recovers : record_words ≤ length words → Recovers n s order area cells cells' words words' number

-- ---- read

-- What the read says; where it is refused version and kind are 0.
pub record ReadCrossed (words area cells : List ℕ) (t : Tables) (k : Key) (version kind number : ℕ) : Type 0 where
  pub reading : Reading
  pub promised : ReadPromise (decoded words).rec.edition (decoded words).rec area cells t k reading
  pub numbered : number ≡ (read_said reading.answer).refused
  pub version-told : version ≡ (read_said reading.answer).version
  pub kind-told : kind ≡ (read_said reading.answer).kind

-- The value is a part of the area: place and length are those that the value read promises, and lie in the area for every input; where
-- the read is refused both are 0.
pub record ValueCrossed (words area cells : List ℕ) (t : Tables) (k : Key) (place bytes number : ℕ) : Type 0 where
  pub reading : Reading
  pub promised : ReadPromise (decoded words).rec.edition (decoded words).rec area cells t k reading
  pub numbered : number ≡ (read_said reading.answer).refused
  pub value : ValuePromise (decoded words).rec.edition (decoded words).rec area cells t k (record { place = place; bytes = bytes })
  pub inside : place + bytes ≤ length area
  pub nowhere : (number ≡ 0 → ⊥) → (place ≡ 0) × (bytes ≡ 0)

-- ---- read by scan

-- What the read by scan says (02, R-9); where it is refused version and kind are 0.
pub record ScanCrossed (n s : ℕ) (area : List ℕ) (t : Tables) (k : Key) (version kind number : ℕ) : Type 0 where
  pub answer : ReadAnswer
  pub promised : ScanPromise (image_layout n s area) n s area t k answer
  pub numbered : number ≡ (read_said answer).refused
  pub version-told : version ≡ (read_said answer).version
  pub kind-told : kind ≡ (read_said answer).kind

-- The value's place and length lie in the area; where the read is refused both are 0.
pub record ScanValueCrossed (n s : ℕ) (area : List ℕ) (t : Tables) (k : Key) (place bytes number : ℕ) : Type 0 where
  pub answer : ReadAnswer
  pub promised : ScanPromise (image_layout n s area) n s area t k answer
  pub numbered : number ≡ (read_said answer).refused
  pub value : ScanValue (image_layout n s area) n s area t k (record { place = place; bytes = bytes })
  pub inside : place + bytes ≤ length area
  pub nowhere : (number ≡ 0 → ⊥) → (place ≡ 0) × (bytes ≡ 0)

-- ---- conversion, which takes no record (02, R-12)

pub record ConvertCrossed (n s : ℕ) (source target target' : List ℕ) (number : ℕ) : Type 0 where
  pub answer : ConvertAnswer
  pub promised : ConvertPromise n s source target target' answer
  pub numbered : number ≡ (convert_said answer).refused

-- ---- write, delete and clean

unfoldable pub stores_after : StartAnswer → ℕ → ℕ
stores_after (Ok n) old = n
stores_after (Err c) old = old

-- What is handed back of a start.
pub record Handed (ok : Bool) (start : Start) (words words' : List ℕ) (stores stores' number : ℕ) : Type 0 where
  pub numbered : number ≡ (start_said start.answer).refused
  pub told : stores' ≡ stores_after start.answer stores
  pub says : words' ≡ kept_words ok words start.rec
  pub long : ok ≡ true → length start.rec.counts ≡ 32

pub record StartCrossed (t : Terms) (o : Operation) (words words' area cells work work' : List ℕ) (stores stores' number : ℕ) : Type 0 where
  pub start : Start
  pub promised : StartPromise (decoded words).rec.edition t o (decoded words).rec area cells work work' start
  pub handed : Handed (decoded words).ok start words words' stores stores' number

-- ---- step

unfoldable pub left_told : StepAnswer → ℕ → ℕ
left_told (Ok (Progress.Left n)) old = n
left_told (Ok (Progress.Done v)) old = 0
left_told (Err c) old = old

unfoldable pub told_after : StepAnswer → ℕ → ℕ
told_after (Ok (Progress.Left n)) old = 0
told_after (Ok (Progress.Done v)) old = v.0
told_after (Err c) old = old

pub record StepCrossed (words words' area area' cells cells' work : List ℕ) (left left' version version' number : ℕ) : Type 0 where
  pub stepped : Stepped
  pub promised : StepPromise (decoded words).rec.edition (decoded words).rec area area' cells cells' work stepped
  pub tested : StepTested (decoded words).rec.edition (decoded words).rec area area' cells cells' work stepped
  pub numbered : number ≡ (step_said stepped.answer).refused
  pub left-told : left' ≡ left_told stepped.answer left
  pub version-told : version' ≡ told_after stepped.answer version
  pub says : words' ≡ kept_words (decoded words).ok words stepped.rec
  pub long : (decoded words).ok ≡ true → length stepped.rec.counts ≡ 32

-- ---- the switch, which takes the record alone (02, R-13)

pub record SwitchCrossed (words words' : List ℕ) (number : ℕ) : Type 0 where
  pub switching : Switching
  pub promised : SwitchPromise (decoded words).rec.edition (decoded words).rec switching
  pub numbered : number ≡ (switch_said switching.answer).refused
  pub says : words' ≡ kept_words (decoded words).ok words switching.rec
  pub long : (decoded words).ok ≡ true → length switching.rec.counts ≡ 32

-- ---- the next store told

unfoldable pub place_told : TellAnswer → ℕ
place_told (Ok s) = s.place
place_told (Err c) = 0

unfoldable pub byte_told : TellAnswer → ℕ
byte_told (Ok s) = s.byte
byte_told (Err c) = 0

-- What is told of the next store, for every input (`told_by`) and as it is promised; where it is refused place and byte are 0.
pub record TellCrossed (words area work : List ℕ) (place byte number : ℕ) : Type 0 where
  pub foretold : Foretold
  pub found : foretold ≡ told_by (decoded words).rec.edition (decoded words).rec area work
  pub promised : TellPromise (decoded words).rec.edition (decoded words).rec area work foretold
  pub numbered : number ≡ (tell_said foretold.answer).refused
  pub place-told : place ≡ place_told foretold.answer
  pub byte-told : byte ≡ byte_told foretold.answer

-- ---- the slot with the fewest present bytes

unfoldable pub slot_told : FewestAnswer → ℕ
slot_told (Ok i) = i
slot_told (Err c) = 0

-- The slot, or 0 where it is refused.
pub record FewestCrossed (words : List ℕ) (slot number : ℕ) : Type 0 where
  pub fewest : Fewest
  pub promised : FewestPromise (decoded words).rec.edition (decoded words).rec fewest
  pub numbered : number ≡ (fewest_said fewest.answer).refused
  pub slot-told : slot ≡ slot_told fewest.answer
