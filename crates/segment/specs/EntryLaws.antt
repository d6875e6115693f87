-- Laws of an entry's bytes, and of what stands at an offset.
use Rattle.std.specs.Prelude.{ℕ, ◌+◌, ◌≤◌, ◌≡◌, true, List, length, get_or, take, drop}
use Rattle.std.proofs.Math.Option.{some}
use Rattle.word.specs.Number.{number_of}
use Rattle.segment.specs.Layout.{Layout, value_length, good_version, table}
use Rattle.segment.specs.Entry.{Entry, bytes_in, value_for, size_of, decoded_entry, Found, entry, end, damage}

-- the entry that stands at an offset, its fields read in the whole segment
abbrev pub decoded_at : Layout → List ℕ → ℕ → ℕ → Entry
decoded_at L s at n =
    record {
      table = number_of (take 2 (drop (at + 1) s));
      key = number_of (take 4 (drop (at + 3) s));
      version = number_of (take (table L).width (drop (at + 7) s));
      value = value_for L (get_or s at 0) (take n (drop (at + (7 + (table L).width)) s));
    }

-- ---- the answer of entry_at, taken apart

-- What it means, in the tests of entry_at, that it gives the entry e.
pub record Readable (L : Layout) (s : List ℕ) (at : ℕ) (e : Entry) : Type 0 where
  pub known : value_length L (get_or s at 0) ≡ some (length (bytes_in e.value))
  pub fits : at + size_of L e ≤ length s
  pub good : good_version L e.version ≡ true
  pub same : decoded_entry L (take (size_of L e) (drop at s)) ≡ e

-- An answer with its tests.
pub data Reading (L : Layout) (s : List ℕ) (at : ℕ) (f : Found) : Type 0 where
  is-entry : (e : Entry) → f ≡ entry e → Readable L s at e → Reading L s at f
  is-end : f ≡ end → at ≤ length s → get_or s at 0 ≡ 0 → Reading L s at f
  is-damage : f ≡ damage → Reading L s at f
