-- Demand 3 for the exported calls.
use Rattle.std.specs.Prelude.{ℕ, ◌≤◌, ◌<◌, ◌≡◌, true, false, List, length, take, drop}
use Rattle.word.specs.Number.{Bytes}
use Rattle.segment.specs.Layout.{Layout, number_of_layout}
use Rattle.segment.specs.declared.Key.{Key}
use Rattle.record.specs.Answers.{read_said}
use Rattle.model.specs.Recovery.{order_bad}
use Rattle.words.specs.Words.{record_words, decoded}
use Rattle.history.specs.Book.{Event, Book, fresh_book, book_of, highest_told}
use Rattle.history.specs.Editions.{Editions, Among, formatted_in, editions_behind}
use Rattle.history.specs.Demand3.{LargeEnough, book_answer, book_value, EventsAgree}
use Rattle.record.specs.Reach.{holds_table}
use Rattle.record.specs.declared.Tables.{Tables}
use Rattle.kurdavel.specs.Crossing.{FormatCrossed, RecoverCrossed, ReadCrossed, ValueCrossed}
use Rattle.exported.specs.Runs.{Memory, fresh_memory, KeyArgument, read_told, ExportedRun}

-- What a recovery gives through words and index: it is accepted, the words say an edition that a slot may have and no switch (02, R-13),
-- and the book's next version; and for each key the two reads, whose tables hold the key's, then answer what the book holds. The kind
-- is that of an edition that a slot may have; the number that a read of the value returns is the same in all of them.
pub record WordsGiveBook (E : Editions) (area cells words : List ℕ) (number : ℕ) (b : Book) : Type 0 where
  pub is-accepted : number ≡ 0
  pub own-edition : Among E (decoded words).rec.edition
  pub not-switched : (decoded words).rec.switched ≡ false
  pub next-version : (decoded words).rec.next.0 ≡ b.next
  pub answers :
      (t : Tables) (k : Key) → KeyArgument k → holds_table t k.table ≡ true → (version kind told : ℕ) →
      ReadCrossed words area cells t k version kind told →
      (K : Layout) × Among E K × (read_told told version kind ≡ read_said (book_answer K (b.keys k)))
  pub values :
      (t : Tables) (k : Key) → KeyArgument k → holds_table t k.table ≡ true → (place bytes told : ℕ) →
      ValueCrossed words area cells t k place bytes told →
      (told ≡ (read_said (book_answer E.format (b.keys k))).refused) × (take bytes (drop place area) ≡ book_value (b.keys k))

-- What demand 3 says of one list of exported calls and cuts.
pub record ExportedDemand3 (L : Layout) (n s : ℕ) (m : Memory) (es : List Event) : Type 0 where
  pub recovery :
      (order cells cells' words words' : List ℕ) (number : ℕ) → order_bad n order ≡ false → LargeEnough m.cells (length cells) →
      record_words ≤ length words → RecoverCrossed n s order m.area cells cells' words words' number →
      WordsGiveBook (editions_behind (formatted_in L) es) m.area cells' words' number (book_of es)
  pub above-told : highest_told es < (book_of es).next
  pub agrees : EventsAgree (formatted_in L) fresh_book es

-- From an accepted kurdavel_format on, which was told the number of an edition, for every list of exported calls and cuts.
abbrev pub Demand3Exported : Type 0
Demand3Exported =
    (L : Layout) (n s : ℕ) (area₀ area : List ℕ) → Bytes area₀ → FormatCrossed (number_of_layout L) n s area₀ area 0 → (es : List Event) (m : Memory) →
    ExportedRun n s (fresh_memory area) es m → ExportedDemand3 L n s m es
