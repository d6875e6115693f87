-- 02, R-14: a history run on a fresh store of 4 slots of 256 bytes with 16 cells, a cut before its first store and after every one, and
-- whether the area that a cut leaves recovers to 01's book: its keys, versions, values and next version.
use Rattle.std.specs.Prelude.{ℕ, zero, suc, ◌+◌, ◌-◌, min, Bool, true, false, not, List, [], ◌∷◌, ◌++◌, eqb, ltb, length, get_or, take, replicate}
use Rattle.std.proofs.Math.Option.{Option, none, some}
use Rattle.segment.specs.Choice.{pick, both, either}
use Rattle.segment.specs.Layout.{version_limit, edition1}
use Rattle.segment.specs.Entry.{bytes_in}
use Rattle.record.specs.declared.Record.{Record}
use Rattle.record.specs.declared.Refusal.{Refusal}
use Rattle.model.specs.Log.{Placed, present, highest}
use Rattle.model.specs.Causes.{first_cause}
use Rattle.model.specs.Recovery.{image_layout, recovered, record_from}
use Rattle.model.specs.Operations.{Operation, write, delete, clean, log_now, plan_for, stores_for, stored, formatted}
use Rattle.model.specs.Refused.{Lengths, freely, start_causes}
use Rattle.text.specs.Ascii.{ascii}
use Rattle.report.specs.Listing.{present_keys}
use Rattle.histories.specs.declared.Letter.{Letter}
use Rattle.histories.specs.declared.Letter.TheVariants.{WriteA, WriteB, DeleteA, DeleteB, CleanAll}
use Rattle.histories.specs.declared.book.Book.{Book}
use Rattle.histories.specs.declared.book.Held.{Held}
use Rattle.histories.specs.Letters.{Word}
use Rattle.histories.specs.List.{histories, line_of, lines_of}
use Rattle.histories.specs.Book.{first_key, second_key, fresh_book, finished, count_of}

-- ---- a recovered area against the book

-- eight bytes, all this one
unfoldable pub all_are : List ℕ → ℕ → Bool
all_are [] b = true
all_are (x ∷ xs) b = both (eqb x b) (all_are xs b)

abbrev pub eight_are : List ℕ → ℕ → Bool
eight_are xs b = both (eqb (length xs) 8) (all_are xs b)

-- what the log has of a key is what the book has of it
unfoldable pub key_as : Option Placed → Held → Bool
key_as none h = eqb h.version 0
key_as (some x) h = both (eqb x.entry.version h.version) (eight_are (bytes_in x.entry.value) h.byte)

-- The next version that recovery gives; and that of the copy that goes by log entries alone.
unfoldable pub next_of : Bool → List Placed → Record → ℕ
next_of false log r = r.next.0
next_of true log r = min (highest log + 1) (version_limit r.edition)

-- The keys of the book and no other, with its versions and values, and its next version.
unfoldable pub store_as : Bool → List Placed → Record → Book → Bool
store_as from_log log r b =
    both (eqb (next_of from_log log r) b.next)
    (both (eqb (length (present_keys log)) (count_of b)) (both (key_as (present log first_key) b.first) (key_as (present log second_key) b.second)))

unfoldable pub wrong_for : Bool → List ℕ → Book → Option Record → Bool
wrong_for from_log area b none = true
wrong_for from_log area b (some r) = not (store_as from_log (log_now area r) r b)

-- Recovery, which takes the edition from the area, is refused, or gives another store than the book's.
unfoldable pub wrong_at : Bool → List ℕ → Book → Bool
wrong_at from_log area b = wrong_for from_log area b (recovered (image_layout 4 256 area) 4 256 16 area)

-- ---- a history with its cuts

-- The operation of the letter at a place of a history, from 1: A and B write eight bytes, each the place, a and b delete, C cleans all
-- slots of the log.
unfoldable pub operation_at : Letter → ℕ → Record → Operation
operation_at WriteA place r = write first_key (replicate 8 place)
operation_at WriteB place r = write second_key (replicate 8 place)
operation_at DeleteA place r = delete first_key
operation_at DeleteB place r = delete second_key
operation_at CleanAll place r = clean r.map

abbrev pub lent : Lengths
lent = record { area = 1024; index = 16; work = 256 }

abbrev pub cause_at : List ℕ → Record → Operation → Option Refusal
cause_at area r o = first_cause (start_causes r.edition r (log_now area r) lent freely o)

-- a cut after k stores of an operation and after each of the m - 1 that follow recovers wrongly
unfoldable pub cuts_wrong : Bool → List ℕ → Record → Operation → Book → ℕ → ℕ → Bool
cuts_wrong from_log area r o b k zero = false
cuts_wrong from_log area r o b k (suc m) =
    either (wrong_at from_log (stored area (take k (plan_for r.edition r (log_now area r) o))) b) (cuts_wrong from_log area r o b (k + 1) m)

abbrev pub record_at : List ℕ → Record
record_at area = record_from (image_layout 4 256 area) 4 256 16 area

unfoldable pub refuses : Option Refusal → Bool
refuses none = false
refuses (some c) = true

-- The letters from a place on, on an area whose book is b. A start that is refused stores nothing and does not count.
unfoldable pub word_wrong : Bool → Word → ℕ → List ℕ → Book → Bool
word_wrong from_log [] place area b = wrong_at from_log area b
word_wrong from_log (l ∷ w) place area b =
    let r = record_at area in
    let o = operation_at l place r in
    pick (refuses (cause_at area r o)) (word_wrong from_log w (place + 1) area b)
    (either (cuts_wrong from_log area r o b 0 (stores_for r.edition r (log_now area r) o))
    (word_wrong from_log w (place + 1) (stored area (plan_for r.edition r (log_now area r) o)) (finished b l place)))

-- on a fresh store, of edition 1
unfoldable pub history_wrong : Bool → Word → Bool
history_wrong from_log w = word_wrong from_log w 1 (formatted edition1 4 256 (replicate 1024 0)) fresh_book

-- ---- what is printed

-- the first history of a list that recovers wrongly
unfoldable pub first_wrong : Bool → List Word → Option Word
first_wrong from_log [] = none
first_wrong from_log (w ∷ ws) = pick (history_wrong from_log w) (some w) (first_wrong from_log ws)

-- its line, or that of `none`
abbrev pub verdict_line : Option Word → List ℕ
verdict_line none = ascii "none" ++ 10 ∷ []
verdict_line (some w) = line_of w

abbrev pub text_for : Bool → ℕ → List ℕ
text_for from_log n = lines_of (histories n) ++ verdict_line (first_wrong from_log (histories n))

-- The text for an input: exactly one byte, the digit 0 to 6; any other prints nothing.
unfoldable pub rig_text : Bool → List ℕ → List ℕ
rig_text from_log input =
    pick (both (eqb (length input) 1) (both (ltb 47 (get_or input 0 0)) (ltb (get_or input 0 0) 55))) (text_for from_log (get_or input 0 0 - 48)) []
