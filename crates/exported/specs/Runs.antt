-- The lists of exported calls and cuts that can happen on one store by 01's rules of use. Every transition is the contract of the
-- exported function, with the arguments that the caller passes and what is told through pointers; its event is the one of the call
-- behind it.
use Rattle.std.specs.Prelude.{ℕ, ◌^◌, ◌≤◌, ◌<◌, ◌≡◌, true, List, [], ◌∷◌, ◌++◌, eqb, length, take, drop}
use Rattle.std.proofs.Math.Option.{Option, none, some}
use Rattle.word.specs.Number.{Bytes}
use Rattle.segment.specs.Choice.{pick}
use Rattle.segment.specs.declared.Key.{Key}
use Rattle.record.specs.Answers.{Said, refusal, taken, taken_with, read_said}
use Rattle.model.specs.Fewest.{no_lengths}
use Rattle.model.specs.Operations.{Operation, write, delete, clean}
use Rattle.record.specs.declared.Tables.{Tables}
use Rattle.model.specs.Refused.{Terms, is_pending}
use Rattle.model.specs.Promises.{read_lengths, lent_lengths, tell_lengths}
use Rattle.words.specs.Words.{record_words, decoded}
use Rattle.history.specs.Book.{reads, reads_value, tells, fewest, starts, steps, switches, asks, recovers, Answer, saying, giving, Event, called, cut, scans, scans_value, converts, joins, pairing}
use Rattle.history.specs.Runs.{Held, World}
use Rattle.kurdavel.specs.Crossing.{RecoverCrossed, ReadCrossed, ValueCrossed, StartCrossed, StepCrossed, TellCrossed, FewestCrossed, ScanCrossed, ScanValueCrossed, ConvertCrossed, SwitchCrossed}
use Rattle.kurdavel.specs.Joining.{JoinCrossed}

-- ---- what is held

-- What the firmware holds from an accepted recovery to the next cut: the record's words, the index, and the work buffer that the last
-- accepted start filled.
pub record HeldWords : Type 0 where
  pub words : List ℕ
  pub cells : List ℕ
  pub work : List ℕ

-- The area, what is held if anything is, and the number of cells at the last accepted recovery if there was one.
pub record Memory : Type 0 where
  pub area : List ℕ
  pub held : Option HeldWords
  pub cells : Option ℕ

abbrev pub fresh_memory : List ℕ → Memory
fresh_memory area = record { area = area; held = none; cells = none }

-- The record held is the one that the words say.
abbrev pub held_by : HeldWords → Held
held_by h = record { rec = (decoded h.words).rec; cells = h.cells; work = h.work }

abbrev pub held_in : Option HeldWords → Option Held
held_in none = none
held_in (some h) = some (held_by h)

abbrev pub world_of : Memory → World
world_of m = record { area = m.area; held = held_in m.held; cells = m.cells }

-- ---- arguments and answers

-- An argument has its C type: 16 bits for a table, 32 for a key and for victims, bytes for a value.
abbrev pub KeyArgument : Key → Type 0
KeyArgument k = (k.table < 2 ^ 16) × (k.key < 2 ^ 32)

abbrev pub Arguments : Operation → Type 0
Arguments (write k value) = KeyArgument k × Bytes value
Arguments (delete k) = KeyArgument k
Arguments (clean victims) = victims < 2 ^ 32

-- What a call says by the number that it returns, given the values that it tells through pointers: at 0 those values.
abbrev pub number_said : ℕ → Said → Said
number_said number values = pick (eqb number 0) values (refusal number)

abbrev pub step_told : (left version : ℕ) → Said
step_told left version = record { refused = 0; stores = left; version = version; kind = 0 }

-- A read tells version and kind through pointers whether it is refused or not.
abbrev pub read_told : (number version kind : ℕ) → Said
read_told number version kind = record { refused = number; stores = 0; version = version; kind = kind }

-- The store that is told, by the number returned and what is told through pointers.
abbrev pub store_told : (number place byte : ℕ) → Answer
store_told number place byte =
    pick (eqb number 0) (record { said = taken; value = byte ∷ []; place = place }) (saying (refusal number))

-- The slot that is told, likewise.
abbrev pub slot_told : (number slot : ℕ) → Answer
slot_told number slot = pick (eqb number 0) (record { said = taken; value = slot ∷ []; place = 0 }) (saying (refusal number))

-- ---- the transitions

-- An accepted recovery gives the words and the index; one that is refused with 20 leaves no index, and any other leaves all as it was.
abbrev pub recovered_memory : Memory → List ℕ → List ℕ → ℕ → Memory
recovered_memory m cells' words' number =
    pick (eqb number 0)
    (record { area = m.area; held = some (record { words = words'; cells = cells'; work = [] }); cells = some (length cells') })
    (pick (eqb number 20) (record { area = m.area; held = none; cells = m.cells }) m)

-- One exported call, or a cut, with the events that it stands for.
pub data Exports (n s : ℕ) : Memory → List Event → Memory → Type 0 where
  -- kurdavel_write, kurdavel_write_expecting, kurdavel_delete and kurdavel_clean, with any work buffer
  start :
      {area work work' words' : List ℕ} {h : HeldWords} {m : Option ℕ} {t : Terms} {o : Operation} {stores stores' number : ℕ} → Arguments o →
      StartCrossed t o h.words words' area h.cells work work' stores stores' number →
      Exports n s (record { area = area; held = some h; cells = m })
      (called (starts t o) (lent_lengths area h.cells work) (saying (number_said number (taken_with stores'))) ∷ [])
      (record { area = area; held = some (record { words = words'; cells = h.cells; work = pick (eqb number 0) work' h.work }); cells = m })
  -- kurdavel_step; while an operation is pending it gets the work buffer that the start filled
  step :
      {area area' cells' work words' : List ℕ} {h : HeldWords} {m : Option ℕ} {left left' version version' number : ℕ} →
      (is_pending (decoded h.words).rec.pending ≡ true → work ≡ h.work) →
      StepCrossed h.words words' area area' h.cells cells' work left left' version version' number →
      Exports n s (record { area = area; held = some h; cells = m })
      (called steps (lent_lengths area h.cells work) (saying (number_said number (step_told left' version'))) ∷ [])
      (record { area = area'; held = some (record { words = words'; cells = cells'; work = h.work }); cells = m })
  -- kurdavel_switch, which changes the words alone
  switch :
      {area words' : List ℕ} {h : HeldWords} {m : Option ℕ} {number : ℕ} → SwitchCrossed h.words words' number →
      Exports n s (record { area = area; held = some h; cells = m }) (called switches no_lengths (saying (number_said number taken)) ∷ [])
      (record { area = area; held = some (record { words = words'; cells = h.cells; work = h.work }); cells = m })
  -- kurdavel_read
  read :
      {area : List ℕ} {h : HeldWords} {m : Option ℕ} {v : Tables} {k : Key} {version kind number : ℕ} → KeyArgument k →
      ReadCrossed h.words area h.cells v k version kind number →
      Exports n s (record { area = area; held = some h; cells = m })
      (called (asks (reads v k)) (read_lengths area h.cells) (saying (read_told number version kind)) ∷ [])
      (record { area = area; held = some h; cells = m })
  -- kurdavel_read_value: its number is that of a read, whose version and kind it does not tell, and then it gives the value
  read_value :
      {area : List ℕ} {h : HeldWords} {m : Option ℕ} {v : Tables} {k : Key} {place bytes number : ℕ} → KeyArgument k →
      (c : ValueCrossed h.words area h.cells v k place bytes number) →
      Exports n s (record { area = area; held = some h; cells = m })
      (called (asks (reads v k)) (read_lengths area h.cells) (saying (read_said c.reading.answer))
      ∷ called (asks (reads_value v k)) (read_lengths area h.cells) (giving (take bytes (drop place area)))
      ∷ [])
      (record { area = area; held = some h; cells = m })
  -- kurdavel_next_store; while an operation is pending it gets the work buffer that the start filled
  tell :
      {area work : List ℕ} {h : HeldWords} {m : Option ℕ} {place byte number : ℕ} →
      (is_pending (decoded h.words).rec.pending ≡ true → work ≡ h.work) →
      TellCrossed h.words area work place byte number →
      Exports n s (record { area = area; held = some h; cells = m })
      (called (asks tells) (tell_lengths area work) (store_told number place byte) ∷ [])
      (record { area = area; held = some h; cells = m })
  -- kurdavel_fewest, which tells its slot through a pointer whether it is refused or not
  least :
      {area : List ℕ} {h : HeldWords} {m : Option ℕ} {slot number : ℕ} → FewestCrossed h.words slot number →
      Exports n s (record { area = area; held = some h; cells = m }) (called (asks fewest) no_lengths (slot_told number slot) ∷ [])
      (record { area = area; held = some h; cells = m })
  -- kurdavel_scan_read with the N and S of the format, whether anything is held or not
  scan :
      {m : Memory} {v : Tables} {k : Key} {version kind number : ℕ} → KeyArgument k → ScanCrossed n s m.area v k version kind number →
      Exports n s m (called (asks (scans n s v k)) (read_lengths m.area []) (saying (read_told number version kind)) ∷ []) m
  -- kurdavel_scan_read_value: its number is that of a read by scan, and then it gives the value
  scan_value :
      {m : Memory} {v : Tables} {k : Key} {place bytes number : ℕ} → KeyArgument k → (c : ScanValueCrossed n s m.area v k place bytes number) →
      Exports n s m
      (called (asks (scans n s v k)) (read_lengths m.area []) (saying (read_said c.answer))
      ∷ called (asks (scans_value n s v k)) (read_lengths m.area []) (giving (take bytes (drop place m.area)))
      ∷ [])
      m
  -- kurdavel_convert of the area with the N and S of the format, into other memory; whether anything is held or not
  convert :
      {m : Memory} {target target' : List ℕ} {number : ℕ} → ConvertCrossed n s m.area target target' number →
      Exports n s m
      (called (asks (converts n s)) (record { area = length m.area; index = 0; work = length target }) (saying (number_said number taken)) ∷ []) m
  -- kurdavel_join, which tells its slots through pointers whether it is refused or not
  join :
      {area : List ℕ} {h : HeldWords} {m : Option ℕ} {first second number : ℕ} → JoinCrossed h.words area h.cells first second number →
      Exports n s (record { area = area; held = some h; cells = m })
      (called (asks joins) (read_lengths area h.cells) (pairing (record { refused = number; first = first; second = second })) ∷ [])
      (record { area = area; held = some h; cells = m })
  -- kurdavel_recover with the N and S of the format, any order list, any index and room for the words
  recover :
      {m : Memory} {order cells cells' words words' : List ℕ} {number : ℕ} → record_words ≤ length words →
      RecoverCrossed n s order m.area cells cells' words words' number →
      Exports n s m (called (recovers n s order) (read_lengths m.area cells) (saying (number_said number taken)) ∷ [])
      (recovered_memory m cells' words' number)
  -- kurdavel_recover without room for the words changes nothing, and no call is made
  short :
      {m : Memory} {order cells cells' words words' : List ℕ} {number : ℕ} → length words < record_words →
      RecoverCrossed n s order m.area cells cells' words words' number → Exports n s m [] m
  -- the power fails
  cuts : {m : Memory} → Exports n s m (cut ∷ []) (record { area = m.area; held = none; cells = m.cells })

-- Exported calls and cuts, one after the other.
pub data ExportedRun (n s : ℕ) : Memory → List Event → Memory → Type 0 where
  stop : {m : Memory} → ExportedRun n s m [] m
  go : {m x y : Memory} {es fs : List Event} → Exports n s m es x → ExportedRun n s x fs y → ExportedRun n s m (es ++ fs) y
