-- One run, computed: N 4, S 256, M 16; a write, a second write of the same key that is cut in its middle, a write of another key, a
-- delete, a cleaning, recoveries, reads before, during and after them, and reads by scan and conversions where no record is held and while
-- one is.
use Rattle.std.specs.Prelude.{ℕ, zero, suc, ◌+◌, ◌<◌, ◌≡◌, refl, List, [], ◌∷◌, ◌++◌, replicate, Ok}
use Rattle.std.proofs.Common.{subst, arith}
use Rattle.std.proofs.Math.Option.{Option, none, some}
use Rattle.word.specs.Fnv.{fnv_step, fnv_from}
use Rattle.segment.specs.Area.{object_length}
use Rattle.segment.specs.Choice.{pick, both}
use Rattle.segment.specs.Entry.{answer}
use Rattle.segment.specs.Layout.{edition1, layout_of_kind, other_layout}
use Rattle.segment.specs.declared.Key.{Key}
use Rattle.slot_map.specs.Bit.{with_bit, less}
use Rattle.record.specs.Answers.{Said, refusal, taken}
use Rattle.model.specs.Log.{same_keys}
use Rattle.model.specs.Conversion.{slot_bytes, converted_slots, slot_too_long, version_too_wide, next_too_wide, slot_too_wide, convert_answer}
use Rattle.model.specs.Index.{around}
use Rattle.record.specs.declared.Expected.TheVariants.{Only}
use Rattle.model.specs.Operations.{Operation, write, delete, clean, Typed, TypedKey, formatted}
use Rattle.model.specs.Play.{opened, keyed}
use Rattle.record.specs.Reach.{all_tables}
use Rattle.model.specs.Refused.{Lengths, Terms, freely}
use Rattle.history.specs.Book.{reads, reads_value, tells, starts, steps, asks, recovers, Answer, saying, giving, telling, Event, called, cut, Kept, Awaited, Book, finish, one_off, take_one, feed_call, feed, book_after, scans, scans_value, converts}
use Rattle.index.specs.Build as Build
use Rattle.index.specs.Build.{entries_from, in_log, listed}
use Rattle.index.specs.Insert.{inserted_at, tallied, insert_next, insert_all}
use Rattle.index.specs.Search.{probe, has_key_at, search_for}
use Rattle.starting.specs.Stores.{commit_stores}
use Rattle.counting.specs.Counting.{lost_at, renewed_at}
use Rattle.stepping.specs.Finish.{keys_after, answered_with, lost_by, found_in, finish_entry, finish_append, finish_head, up_from, finish_clean, finish_forget, one_less, finish_with, advanced}
use Rattle.telling.specs.Agree.{entry_agrees, slot_agrees, victims_agree, agrees_with, tested_store}
use Rattle.record.specs.Answered.{TellAnswer}
use Rattle.telling.specs.Told.{told_store, told_unless}
use Rattle.telling.specs.Next.{commit_store, fits_slot, fits_left, slot_store, slot_next, pending_next}
use Rattle.witness.specs.Answers.{cells_by}
use Rattle.witness.specs.Compared.{expected_number, call_numbers, event_numbers, event_value, compared}
use Rattle.witness.specs.Steps.{stored_by, stepped_unless}
use Rattle.witness.specs.Commands.{Command, operate, question, restart, answer_by, lent_by, played, play_on, glance, glance_value, convert_into}

abbrev pub nine : Key
nine = keyed 7 9

abbrev pub ten : Key
ten = keyed 7 10

abbrev pub ones : List ℕ
ones = replicate 8 0x11

abbrev pub twos : List ℕ
twos = replicate 8 0x22

abbrev pub threes : List ℕ
threes = replicate 24 0x33

-- a start on terms, and on none
abbrev pub starting_on : Terms → (o : Operation) → Typed o → Command
starting_on q o t = operate q o t (replicate 256 0x55)

abbrev pub starting : (o : Operation) → Typed o → Command
starting = starting_on freely

-- the key is expected to have that version
abbrev pub expecting : ℕ → Terms
expecting v = record { expected = Only (record { 0 = v }); tables = all_tables }

abbrev pub recovering : Command
recovering = restart (0 ∷ 1 ∷ 2 ∷ 3 ∷ []) (replicate 16 0)

-- a read of the key, and one of its value
abbrev pub looking : (k : Key) → TypedKey k → List Command → List Command
looking k t rest = question (reads all_tables k) t ∷ question (reads_value all_tables k) t ∷ rest

-- the same by scan
abbrev pub glancing : (k : Key) → TypedKey k → List Command → List Command
glancing k t rest = glance all_tables k t ∷ glance_value all_tables k t ∷ rest

-- a conversion into other memory of so many bytes
abbrev pub converting : ℕ → Command
converting long = convert_into (replicate long 0x77)

-- ---- the events, with their answers as numbers

abbrev pub told : (stores version kind : ℕ) → Said
told stores version kind = record { refused = 0; stores = stores; version = version; kind = kind }

-- the lengths lent, by that of the work buffer
abbrev pub lent : ℕ → Lengths
lent work = record { area = 1024; index = 16; work = work }

abbrev pub started_on : Terms → Operation → ℕ → Event
started_on q o stores = called (starts q o) (lent 256) (saying (told stores 0 0))

abbrev pub started : Operation → ℕ → Event
started = started_on freely

abbrev pub stepped : Said → Event
stepped a = called steps (lent 256) (saying a)

abbrev pub recovered : Event
recovered = called (recovers 4 256 (0 ∷ 1 ∷ 2 ∷ 3 ∷ [])) (lent 0) (saying taken)

abbrev pub read_event : Key → Said → Event
read_event k a = called (asks (reads all_tables k)) (lent 0) (saying a)

abbrev pub value_event : Key → List ℕ → Event
value_event k value = called (asks (reads_value all_tables k)) (lent 0) (giving value)

-- what is told of the next store, with the work buffer of the last start
abbrev pub foretold : Answer → Event
foretold a = called (asks tells) (record { area = 1024; index = 0; work = 256 }) a

-- a read that is answered so, and the value
abbrev pub reads_as : Key → Said → List ℕ → List Event
reads_as k a value = read_event k a ∷ value_event k value ∷ []

-- a read by scan that is answered so, and the value
abbrev pub scan_event : Key → Said → Event
scan_event k a = called (asks (scans 4 256 all_tables k)) (record { area = 1024; index = 0; work = 0 }) (saying a)

abbrev pub scans_as : Key → Said → List ℕ → List Event
scans_as k a value =
    scan_event k a ∷ called (asks (scans_value 4 256 all_tables k)) (record { area = 1024; index = 0; work = 0 }) (giving value) ∷ []

-- a conversion into memory of so many bytes that is answered so
abbrev pub convert_event : ℕ → Said → Event
convert_event long a = called (asks (converts 4 256)) (record { area = 1024; index = 0; work = long }) (saying a)

-- f steps, one after the other, the last of which leaves k stores
abbrev pub leaving : ℕ → ℕ → List Event
leaving zero k = []
leaving (suc f) k = stepped (told (f + k) 0 0) ∷ leaving f k

-- an operation of n + 1 stores, to its last, which tells that version
abbrev pub finished_on : Terms → Operation → ℕ → ℕ → List Event
finished_on q o n version = started_on q o (n + 1) ∷ leaving n 1 ++ stepped (told 0 version 0) ∷ []

abbrev pub finished : Operation → ℕ → ℕ → List Event
finished = finished_on freely

-- The fresh store: a read answers 8, and the value is empty, by scan before the first recovery too. Then it is converted already; a second
-- buffer that is a byte too short is refused with 1.
abbrev pub unheld : List Event
unheld = scans_as nine (refusal 8) [] ++ convert_event 1023 (refusal 1) ∷ convert_event 1024 taken ∷ []

abbrev pub begins : List Event
begins = unheld ++ recovered ∷ reads_as nine (refusal 8) []

-- The first write is version 1, of kind 1; a step too many is refused with 6, and so is who asks for the store of a further step.
abbrev pub writes : List Event
writes = finished (write nine ones) 19 1

abbrev pub idles : List Event
idles = stepped (refusal 6) ∷ reads_as nine (told 0 1 1) ones ++ foretold (saying (refusal 6)) ∷ []

-- The second one is refused with 21 while it expects the key to be absent. Expecting version 1 it is started, and its first store is
-- told: the entry comes to stand at 32, and behind its kind byte comes the first byte of its table. 7 of its 20 stores are made, and
-- reads meanwhile show the first.
abbrev pub half : List Event
half =
    called (starts (expecting 0) (write nine twos)) (lent 256) (saying (refusal 21))
    ∷ started_on (expecting 1) (write nine twos) 20
    ∷ foretold (telling (Ok (record { place = 33; byte = 7 })))
    ∷ leaving 7 13

abbrev pub meanwhile : List Event
meanwhile = reads_as nine (told 0 1 1) ones

-- The cut in it, and what is left; a scan shows the same during the write, where the area is converted too, and after the cut without a
-- record.
abbrev pub fails : List Event
fails = scans_as nine (told 0 1 1) ones ++ convert_event 1024 taken ∷ cut ∷ scans_as nine (told 0 1 1) ones ++ recovered ∷ reads_as nine (told 0 1 1) ones

-- The write of the other key, which is expected to be absent, takes the version that the cut write did not get, and the delete the one
-- after.
abbrev pub others : List Event
others = finished_on (expecting 0) (write ten threes) 35 2

abbrev pub deletes : List Event
deletes = finished (delete nine) 11 3

-- The cleaning keeps the entry of the other key alone.
abbrev pub cleans : List Event
cleans = finished (clean 1) 49 0

abbrev pub ends : List Event
ends = cut ∷ recovered ∷ reads_as nine (refusal 8) [] ++ reads_as ten (told 0 2 2) threes

abbrev pub events : List Event
events = begins ++ (writes ++ (idles ++ (half ++ (meanwhile ++ (fails ++ (others ++ (deletes ++ (cleans ++ ends))))))))

-- ---- the run

-- what stood in the area before the format, and the area after it
abbrev pub before : List ℕ
before = replicate 1024 0xaa

abbrev pub area₀ : List ℕ
area₀ = formatted edition1 4 256 before

-- What the run computes with, opened by one name.
unfoldable pub computing : Unit {0}
unfolding opened fnv_step fnv_from with_bit less around entries_from in_log listed Build.finished inserted_at tallied insert_next insert_all probe search_for has_key_at
    keys_after answered_with answer object_length lost_at lost_by renewed_at found_in finish_entry finish_append finish_head up_from finish_clean finish_forget one_less finish_with advanced
    entry_agrees slot_agrees victims_agree agrees_with tested_store
    commit_stores commit_store fits_slot fits_left slot_store slot_next pending_next cells_by stored_by stepped_unless told_store told_unless
    layout_of_kind other_layout slot_bytes converted_slots slot_too_long version_too_wide next_too_wide slot_too_wide convert_answer answer_by lent_by played play_on compared expected_number call_numbers event_numbers event_value
computing = tt

-- ---- its book

-- what a book holds of the two keys, its next version, and what is pending
pub record Page (b : Book) (first second : Option Kept) (next : ℕ) (pending : Option Awaited) : Type 0 where
  pub first_key : b.keys nine ≡ first
  pub second_key : b.keys ten ≡ second
  pub next-version : b.next ≡ next
  pub awaits : b.pending ≡ pending

-- what a book computes with
unfoldable pub booking : Unit {0}
unfolding pick both same_keys finish one_off take_one feed_call feed book_after
booking = tt

abbrev pub one : Option Kept
one = some (record { version = 1; value = ones })

abbrev pub two : Option Kept
two = some (record { version = 2; value = threes })
