-- Demand 3, as one claim about a whole list of calls and cuts. Each phrase of the demand stands beside the part that renders it.
use Rattle.std.specs.Prelude.{ℕ, ◌-◌, ◌≤◌, ◌<◌, ◌≡◌, Bool, true, false, List, [], ◌∷◌, eqb, length, Ok, Err}
use Rattle.std.proofs.Math.Option.{Option, none, some}
use Rattle.word.specs.Number.{Bytes}
use Rattle.segment.specs.Choice.{pick, both, either}
use Rattle.segment.specs.Layout.{Layout, number_of_layout}
use Rattle.segment.specs.declared.Key.{Key}
use Rattle.segment.specs.Entry.{kind_for}
use Rattle.record.specs.Answers.{Said, taken, read_said, refusal}
use Rattle.record.specs.Pairs.{none_said}
use Rattle.record.specs.Reach.{holds_table}
use Rattle.record.specs.Range.{cells_good}
use Rattle.record.specs.declared.Expected.{Expected}
use Rattle.record.specs.declared.Expected.TheVariants.{Any, Only}
use Rattle.record.specs.Answered.{FormatAnswer, Reading, ReadAnswer, Recovery, RecoverAnswer}
use Rattle.record.specs.declared.Refusal.{Refusal}
use Rattle.record.specs.declared.Tables.{Tables}
use Rattle.model.specs.Operations.{Operation, write, delete, clean, TypedKey}
use Rattle.model.specs.Recovery.{order_bad, image_layout}
use Rattle.model.specs.Refused.{Terms}
use Rattle.model.specs.Promises.{FormatPromise, RecoverPromise, ReadPromise, Part, part_of, ValuePromise}
use Rattle.history.specs.Book.{Question, reads, reads_value, tells, fewest, starts, steps, switches, asks, recovers, Answer, saying, giving, Event, called, cut, accepted, Kept, Awaited, Book, book_version, fresh_book, feed, book_of, version_for, highest_told, scans, scans_value, converts, joins, pairing}
use Rattle.history.specs.Editions.{Editions, Among, formatted_in, editions_after, editions_behind}
use Rattle.history.specs.Runs.{World, fresh_world, Run}

-- "its index as large as at the last accepted one": within the limits, and no smaller; before the first, any within the limits
unfoldable pub LargeEnough : Option ℕ → ℕ → Type 0
LargeEnough none m = cells_good m ≡ true
LargeEnough (some k) m = (cells_good m ≡ true) × (k ≤ m)

-- what a read answers of a key by the book: version and kind, or 8. The kind is that of the value's length in the edition of some slot.
unfoldable pub book_answer : Layout → Option Kept → ReadAnswer
book_answer L none = Err Refusal.Absent
book_answer L (some x) = Ok (record { version = (record { 0 = x.version }); kind = (kind_for L (some x.value)) })

-- and its value, the empty part where read refuses
unfoldable pub book_value : Option Kept → List ℕ
book_value none = []
book_value (some x) = x.value

-- "It gives exactly what 01's book of that list holds", E being the editions that slots may have
pub record GivesBook (E : Editions) (area cells' : List ℕ) (r : Recovery) (b : Book) : Type 0 where
  -- "recovery ... is accepted"
  pub is-accepted : r.answer ≡ (Ok tt)
  -- the record has the edition of the format (02, R-11) or, after a switch, that or the second (R-13); and it is not switched
  pub own-edition : Among E r.rec.edition
  pub not-switched : r.rec.switched ≡ false
  -- "and the next version"
  pub next-version : r.rec.next.0 ≡ b.next
  -- "the keys, versions and values left by the operations whose last store was done": for each key what a read then answers, whose
  -- tables hold the key's (02, R-2)
  pub answers :
      (t : Tables) (k : Key) → TypedKey k → holds_table t k.table ≡ true → (a : Reading) → ReadPromise r.rec.edition r.rec area cells' t k a →
      (K : Layout) × Among E K × (a.answer ≡ book_answer K (b.keys k))
  pub values :
      (t : Tables) (k : Key) → TypedKey k → holds_table t k.table ≡ true → (p : Part) → ValuePromise r.rec.edition r.rec area cells' t k p →
      part_of area p ≡ book_value (b.keys k)

-- "Each accepted step answers the stores left in the book, and an operation's last step also the book's version for it"
unfoldable pub StepAgrees : Book → Said → Option Awaited → Type 0
StepAgrees b a none = ⊥
StepAgrees b a (some p) = (a.stores ≡ p.left - 1) × (p.left ≡ 1 → a.version ≡ version_for b p.operation)

-- A store is told only where the book has an operation pending, and 6 is answered only where it has none.
unfoldable pub TellAgrees : Answer → Option Awaited → Type 0
TellAgrees a none = accepted a ≡ false
TellAgrees a (some p) = a.said.refused ≡ 6 → ⊥

-- What a conversion of the store's area answers. That area is always an image without a fault, so it is refused for nothing but the second
-- buffer's length (1), a slot that no longer fits (29) or a version too wide (30), and by no number of a bad image (02, R-12); after a switch
-- there may be slots of both editions (28).
abbrev pub convert_may_answer : Bool → ℕ → Bool
convert_may_answer switched x = either (either (either (eqb x 0) (eqb x 1)) (either (eqb x 29) (eqb x 30))) (both switched (eqb x 28))

-- What a read answers: by the edition of the slot in which the key's object stands.
abbrev pub ReadAgrees : Editions → Book → Tables → Key → Answer → Type 0
ReadAgrees E b t k a =
    (K : Layout) × Among E K × (a ≡ saying (pick (holds_table t k.table) (read_said (book_answer K (b.keys k))) (refusal 22)))

-- A read answers version and kind of what the book holds of its key, or 8, and a read of the value that value; also while an
-- operation is pending. A key whose table the caller may not reach is answered with 22 and no value, whatever the book holds (02, R-2). A
-- read by scan answers the same at any moment (02, R-9). Of slots the book knows nothing; which one has the fewest present bytes is always
-- told, and while an operation is pending none are named to join (02, R-7). A conversion finds a good image at any moment.
unfoldable pub QuestionAgrees : Editions → Book → Question → Answer → Type 0
QuestionAgrees E b (reads t k) a = ReadAgrees E b t k a
QuestionAgrees E b (reads_value t k) a = a ≡ giving (pick (holds_table t k.table) (book_value (b.keys k)) [])
QuestionAgrees E b tells a = TellAgrees a b.pending
QuestionAgrees E b fewest a = accepted a ≡ true
QuestionAgrees E b joins a = (x : Awaited) → b.pending ≡ some x → a ≡ pairing (none_said 5)
QuestionAgrees E b (scans n s t k) a = ReadAgrees E b t k a
QuestionAgrees E b (scans_value n s t k) a = a ≡ giving (pick (holds_table t k.table) (book_value (b.keys k)) [])
QuestionAgrees E b (converts n s) a = convert_may_answer E.switched a.said.refused ≡ true

-- 02, R-1: what a write expected of its key, where it was accepted, is the version that the book has of it.
unfoldable pub Expects : Expected → ℕ → Type 0
Expects Any v = Unit
Expects (Only e) v = e.0 ≡ v

unfoldable pub StartAgrees : Book → Terms → Operation → Type 0
StartAgrees b t (write k value) = Expects t.expected (book_version (b.keys k))
StartAgrees b t (delete k) = Unit
StartAgrees b t (clean victims) = Unit

-- 02, R-13: a switch is refused for nothing but an operation that is pending.
unfoldable pub SwitchAgrees : Answer → Option Awaited → Type 0
SwitchAgrees a none = a ≡ saying taken
SwitchAgrees a (some p) = a ≡ saying (refusal 5)

unfoldable pub EventAgrees : Editions → Book → Event → Type 0
EventAgrees E b (called (starts t o) lent a) = accepted a ≡ true → StartAgrees b t o
EventAgrees E b (called steps lent a) = accepted a ≡ true → StepAgrees b a.said b.pending
EventAgrees E b (called switches lent a) = SwitchAgrees a b.pending
EventAgrees E b (called (asks q) lent a) = QuestionAgrees E b q a
EventAgrees E b (called (recovers n s order) lent a) = Unit
EventAgrees E b cut = Unit

-- for every event, the book being that of the list before it
unfoldable pub EventsAgree : Editions → Book → List Event → Type 0
EventsAgree E b [] = Unit
EventsAgree E b (e ∷ es) = EventAgrees E b e × EventsAgree (editions_after E e) (feed b e) es

-- What demand 3 says of one list that leads to the world w.
pub record Demand3Of (L : Layout) (n s : ℕ) (w : World) (es : List Event) : Type 0 where
  -- "recovery by 01's rules of use, its index as large as at the last accepted one, is accepted, whichever order the segments are
  -- read in. It gives exactly what 01's book of that list holds"
  pub recovery :
      (order cells cells' : List ℕ) (r : Recovery) → order_bad n order ≡ false → LargeEnough w.cells (length cells) →
      RecoverPromise (image_layout n s w.area) n s order w.area cells cells' r →
      GivesBook (editions_behind (formatted_in L) es) w.area cells' r (book_of es)
  -- "above every version told to a caller since that format"
  pub above-told : highest_told es < (book_of es).next
  -- every step and every question answers what the book of the list before it says, and an accepted write found what it expected
  pub agrees : EventsAgree (formatted_in L) fresh_book es

-- "For every list of calls on one store ... and cuts, from an accepted format on", which was told the number of the edition
abbrev pub Demand3For : Layout → Type 0
Demand3For L =
    (n s : ℕ) (area₀ area : List ℕ) → Bytes area₀ → FormatPromise (number_of_layout L) n s area₀ area (Ok tt) → (es : List Event) (w : World) →
    Run n s (fresh_world area) es w → Demand3Of L n s w es

-- For a store of either edition (02, R-11).
abbrev pub Demand3 : Type 0
Demand3 = (L : Layout) → Demand3For L
