-- 01, the last lines of "Values to hold it to": what the program prints for an input of N (1 byte), S (2 bytes) and the area,
-- with M 4,096. Every line ends in one newline.
use Rattle.std.specs.Prelude.{ℕ, ◌+◌, ◌*◌, List, [], ◌∷◌, ◌++◌, ltb, length, get_or, take, drop}
use Rattle.std.proofs.Math.Option.{Option, none, some}
use Rattle.word.specs.Number.{number_of}
use Rattle.segment.specs.Choice.{pick}
use Rattle.segment.specs.declared.DigestNumber.{DigestNumber}
use Rattle.segment.specs.declared.Key.{Key}
use Rattle.segment.specs.declared.Version.{Version}
use Rattle.record.specs.Refusals.{number_of_refusal}
use Rattle.record.specs.declared.Refusal.{Refusal}
use Rattle.record.specs.declared.Record.{Record}
use Rattle.model.specs.Log.{Placed, placed_kind, present}
use Rattle.model.specs.Causes.{first_cause}
use Rattle.model.specs.Recovery.{image_layout, area_causes, record_from}
use Rattle.model.specs.Operations.{log_now}
use Rattle.text.specs.Ascii.{ascii}
use Rattle.text.specs.Digits.{digits}
use Rattle.report.specs.Listing.{present_keys}

-- a number and a word behind it
abbrev pub field : ℕ → List ℕ → List ℕ
field n word = digits n ++ word

-- A refusal: one line, with its number.
abbrev pub refused_line : Refusal → List ℕ
refused_line c = ascii "refused " ++ field (number_of_refusal c) (ascii "\n")

-- Next version, digest number and the number of present keys.
abbrev pub head_line : Version → DigestNumber → ℕ → List ℕ
head_line next digest keys = ascii "next " ++ field next.0 (ascii " digest ") ++ field digest.0 (ascii " keys ") ++ field keys (ascii "\n")

-- A present key: table, key, version, kind.
abbrev pub key_line : Key → Version → ℕ → List ℕ
key_line k version kind =
    field k.table (ascii " ") ++ field k.key (ascii " ") ++ field version.0 (ascii " ") ++ field kind (ascii "\n")

-- the line of a key that has this object, with the kind that stands in its slot; a key that has none has no line
unfoldable pub line_of : Key → Option Placed → List ℕ
line_of k none = []
line_of k (some x) = key_line k (record { 0 = x.entry.version }) (placed_kind x)

unfoldable pub lines_of : List Placed → List Key → List ℕ
lines_of log [] = []
lines_of log (k ∷ ks) = line_of k (present log k) ++ lines_of log ks

abbrev pub present_lines : List ℕ → Record → List ℕ
present_lines area r = lines_of (log_now area r) (present_keys (log_now area r))

-- The listing of an area with this record: the head line, then a line for each present key of its log.
abbrev pub listing_text : List ℕ → Record → List ℕ
listing_text area r =
    head_line r.next r.digest (length (present_keys (log_now area r))) ++ present_lines area r

-- M
abbrev pub cells_used : ℕ
cells_used = 4096

unfoldable pub text_unless : Option Refusal → List ℕ → List ℕ
text_unless none text = text
text_unless (some c) text = refused_line c

-- The text for N, S and an area: the listing with the record that recovery gives, or its refusal, by the edition of the head.
unfoldable pub area_text : ℕ → ℕ → List ℕ → List ℕ
area_text n s area =
    text_unless (first_cause (area_causes (image_layout n s area) n s cells_used area))
    (listing_text area (record_from (image_layout n s area) n s cells_used area))

-- An input too short to hold N and S is of a wrong length, like one whose area is not N × S bytes long.
unfoldable pub dump_text : List ℕ → List ℕ
dump_text input =
    pick (ltb (length input) 3) (refused_line Refusal.Geometry)
    (area_text (get_or input 0 0) (number_of (take 2 (drop 1 input))) (drop 3 input))

-- ---- what is left in a caller's buffer

-- No text is longer: a version has at most twenty digits and another number ten, so a head line is at most 60 bytes long, and the
-- line of a key at most 54; there are fewer than M keys.
abbrev pub text_room : ℕ
text_room = 64 + 54 * cells_used

-- In a buffer that may be too short nothing is put.
unfoldable pub text_within : ℕ → List ℕ → List ℕ
text_within room text = pick (ltb room text_room) [] text
