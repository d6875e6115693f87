-- The store record as 49 words of 32 bits: its nine numbers in the order of its fields, the next version in two words; behind them the
-- number of its edition (02, R-11) and whether the store is switched (R-13); then the pending operation: a tag, the new head's slot, the
-- victims, the length of what the work buffer holds, and the stores left; then the present bytes of the 32 slots. A word that an
-- operation has no use for is 0.
use Rattle.std.specs.Prelude.{ℕ, ◌+◌, ◌*◌, ◌/◌, ◌%◌, Bool, true, false, not, List, [], ◌∷◌, ◌++◌, eqb, leb, length, get_or, take, drop}
use Rattle.std.proofs.Math.Option
use Rattle.segment.specs.Choice.{pick, both, either, is_none}
use Rattle.segment.specs.Layout.{Layout, edition1, layout_numbered, number_of_layout}
use Rattle.record.specs.Answers.{blank}
use Rattle.record.specs.declared.Pending.{Pending}
use Rattle.record.specs.declared.Pending.TheVariants.{Idle, Append, NewHead, Clean, Forget}
use Rattle.record.specs.declared.Record.{Record}
use Rattle.words.specs.declared.Decoded.{Decoded}

-- how many words a record takes
abbrev pub record_words : ℕ
record_words = 49

-- ---- the words of a record

abbrev pub pending_words : Pending → List ℕ
pending_words Idle = 0 ∷ 0 ∷ 0 ∷ 0 ∷ 0 ∷ []
pending_words (Append n k) = 1 ∷ 0 ∷ 0 ∷ n ∷ k ∷ []
pending_words (NewHead s n k) = 2 ∷ s ∷ 0 ∷ n ∷ k ∷ []
pending_words (Clean s v n k) = 3 ∷ s ∷ v ∷ n ∷ k ∷ []
pending_words (Forget s v n k) = 4 ∷ s ∷ v ∷ n ∷ k ∷ []

-- the word of the switch: 1 where the store is switched, else 0
unfoldable pub switch_number : Bool → ℕ
switch_number t = pick t 1 0

abbrev pub number_words : Record → List ℕ
number_words r = r.slots ∷ r.size ∷ r.cells ∷ r.head ∷ r.end ∷ r.digest.0 ∷ r.map ∷ r.next.0 % 4294967296 ∷ r.next.0 / 4294967296 ∷ r.keys ∷ number_of_layout r.edition ∷ switch_number r.switched ∷ []

abbrev pub words_of : Record → List ℕ
words_of r = number_words r ++ pending_words r.pending ++ r.counts

-- ---- the record of words

unfoldable pub zeros : ℕ → ℕ → Bool
zeros a b = both (eqb a 0) (eqb b 0)

-- whether a word is the number of an edition
unfoldable pub edition_fits : ℕ → Bool
edition_fits e = not (is_none (layout_numbered e))

-- the edition of that number; where there is none the words are no record's, and the first stands for it
unfoldable pub edition_of : ℕ → Layout
edition_of e = Option.get_or (layout_numbered e) edition1

-- whether a word tells a switch: 0 or 1
abbrev pub switch_fits : ℕ → Bool
switch_fits s = leb s 1

-- whether the store is switched, by that word
abbrev pub switch_of : ℕ → Bool
switch_of s = eqb s 1

-- whether five words are those of a pending operation
unfoldable pub pending_fits : ℕ → ℕ → ℕ → ℕ → ℕ → Bool
pending_fits t s v n k =
    pick (eqb t 0) (both (zeros s v) (zeros n k)) (pick (eqb t 1) (zeros s v) (pick (eqb t 2) (eqb v 0) (either (eqb t 3) (eqb t 4))))

unfoldable pub pending_of : ℕ → ℕ → ℕ → ℕ → ℕ → Pending
pending_of t s v n k =
    pick (eqb t 1) (Append n k) (pick (eqb t 2) (NewHead s n k) (pick (eqb t 3) (Clean s v n k) (pick (eqb t 4) (Forget s v n k) Idle)))

abbrev pub word : List ℕ → ℕ → ℕ
word w i = get_or w i 0

abbrev pub counts_in : List ℕ → List ℕ
counts_in w = take 32 (drop 17 w)

abbrev pub record_in : List ℕ → Record
record_in w =
    record {
      slots = word w 0;
      size = word w 1;
      cells = word w 2;
      edition = edition_of (word w 10);
      switched = switch_of (word w 11);
      head = word w 3;
      end = word w 4;
      digest = record { 0 = word w 5 };
      map = word w 6;
      next = record { 0 = word w 7 + 4294967296 * word w 8 };
      keys = word w 9;
      counts = counts_in w;
      pending = pending_of (word w 12) (word w 13) (word w 14) (word w 15) (word w 16);
    }

-- whether the first words of what is lent are a record's
unfoldable pub is_record : List ℕ → Bool
is_record w =
    both (leb record_words (length w))
    (both (edition_fits (word w 10)) (both (switch_fits (word w 11)) (pending_fits (word w 12) (word w 13) (word w 14) (word w 15) (word w 16))))

-- the record, or the blank one where the words are no record's
unfoldable pub decoded : List ℕ → Decoded
decoded w = pick (is_record w) (record { ok = true; rec = record_in w }) (record { ok = false; rec = blank })
