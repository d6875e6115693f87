-- Two lists of events are held against each other as numbers, so that one test is computed over them; a law turns it into an equation.
use Rattle.std.specs.Prelude.{ℕ, zero, suc, ◌≡◌, refl, List, [], ◌∷◌, length, get_or, drop}
use Rattle.std.proofs.Common.{sym, ◌∙◌, ap, ap₂, arith}
use Rattle.segment.specs.declared.Key.{Key}
use Rattle.record.specs.declared.Expected.{Expected}
use Rattle.record.specs.declared.Expected.TheVariants.{Any, Only}
use Rattle.record.specs.declared.Tables.{Tables}
use Rattle.model.specs.Operations.{write, delete, clean}
use Rattle.model.specs.Table.{Row, row}
use Rattle.history.specs.Book.{reads, reads_value, tells, fewest, Call, starts, steps, switches, asks, recovers, Event, called, cut, scans, scans_value, converts, joins}

-- ---- an event as numbers: what is told, with the place, the lengths lent, which call it is, and its arguments; and its value

-- 0 where nothing is expected, else one more than the version
unfoldable pub expected_number : Expected → ℕ
expected_number Any = 0
expected_number (Only v) = suc v.0

unfoldable pub call_numbers : Call → List ℕ
call_numbers steps = 0 ∷ []
call_numbers (recovers n s order) = 1 ∷ n ∷ s ∷ order
call_numbers (asks (reads t k)) = 2 ∷ t.first ∷ t.last ∷ k.table ∷ k.key ∷ []
call_numbers (asks (reads_value t k)) = 3 ∷ t.first ∷ t.last ∷ k.table ∷ k.key ∷ []
call_numbers (starts t (clean victims)) = 4 ∷ expected_number t.expected ∷ t.tables.first ∷ t.tables.last ∷ victims ∷ []
call_numbers (starts t (delete k)) = 5 ∷ expected_number t.expected ∷ t.tables.first ∷ t.tables.last ∷ k.table ∷ k.key ∷ []
call_numbers (asks tells) = 7 ∷ []
call_numbers (asks fewest) = 8 ∷ []
call_numbers (asks (scans n s t k)) = 9 ∷ n ∷ s ∷ t.first ∷ t.last ∷ k.table ∷ k.key ∷ []
call_numbers (asks (scans_value n s t k)) = 10 ∷ n ∷ s ∷ t.first ∷ t.last ∷ k.table ∷ k.key ∷ []
call_numbers (starts t (write k value)) = 6 ∷ expected_number t.expected ∷ t.tables.first ∷ t.tables.last ∷ k.table ∷ k.key ∷ value
call_numbers (asks joins) = 11 ∷ []
call_numbers (asks (converts n s)) = 12 ∷ n ∷ s ∷ []
call_numbers switches = 13 ∷ []

unfoldable pub event_numbers : Event → List ℕ
event_numbers cut = []
event_numbers (called c l a) =
    a.said.refused ∷ a.said.stores ∷ a.said.version ∷ a.said.kind ∷ a.place ∷ l.area ∷ l.index ∷ l.work ∷ call_numbers c

unfoldable pub event_value : Event → List ℕ
event_value cut = []
event_value (called c l a) = a.value

-- ---- and back

abbrev pub key_from : List ℕ → Key
key_from xs = record { table = get_or xs 0 0; key = get_or xs 1 0 }

abbrev pub tables_from : List ℕ → Tables
tables_from xs = record { first = get_or xs 0 0; last = get_or xs 1 0 }

-- ---- two lists: two rows for each event, numbered by the events behind it, and one that fails where a list ends before the other

unfoldable pub compared : List Event → List Event → List Row
compared [] [] = []
compared [] (y ∷ ys) = row 0 [] (1 ∷ []) ∷ []
compared (x ∷ xs) [] = row 0 [] (1 ∷ []) ∷ []
compared (x ∷ xs) (y ∷ ys) =
    row (length ys) (event_numbers x) (event_numbers y) ∷ row (length ys) (event_value x) (event_value y) ∷ compared xs ys
