-- The book that `play` keeps, for four keys (01, "The book of a list"). Version 0 stands for a key that is not present.
use Rattle.std.specs.Prelude.{◌≡◌, ℕ, ◌+◌, ◌<◌, ◌≤◌, min, List, [], ◌∷◌, ◌==◌, slice_set}
use Rattle.std.proofs.Common.{◌∙◌, ap, arith}
use Rattle.segment.specs.Choice.{pick}
use Rattle.segment.specs.declared.Key.{Key}
use Rattle.segment.specs.declared.Version.{Version}
use Rattle.record.specs.declared.Record.{Record}
use Rattle.record.specs.Answered.{Recovery}
use Rattle.model.specs.Recovery.{image_layout, recovery}
use Rattle.play.specs.declared.book.Book.{Book}
use Rattle.play.specs.declared.book.Held.{Held}
use Rattle.play.specs.declared.book.Value.{Value}
use Rattle.play.specs.declared.operations.Played.{Played}

abbrev keyed : ℕ → ℕ → Key
keyed table key = record { table = table; key = key }

-- the keys by their numbers
unfoldable pub key_of : ℕ → Key
key_of n =
    pick (n == 0) (keyed 7 9) (pick (n == 1) (keyed 7 10) (pick (n == 2) (keyed 0 0) (keyed 65535 4294967295)))

abbrev pub nothing : Held
nothing = record { version = record { 0 = 0 }; value = record { length = 0; first = 0; rise = 0 } }

abbrev pub empty_book : Version → Book
empty_book next = record { next = next; held = nothing ∷ nothing ∷ nothing ∷ nothing ∷ [] }

abbrev versioned : ℕ → Version
versioned n = record { 0 = n }

-- the version after one, up to the limit of next versions
abbrev pub following : Version → Version
following v = versioned (min (v.0 + 1) 4294967295)

-- a key has what is given, at the next version
abbrev pub changed : Book → ℕ → Held → Book
changed b number now = record { next = following b.next; held = slice_set b.held number now }

abbrev pub written : Book → ℕ → Value → Book
written b number value = changed b number (record { version = b.next; value = value })

abbrev pub deleted : Book → ℕ → Book
deleted b number = changed b number nothing

-- a record and its book, while the supply holds
abbrev pub played : Record → Book → Played
played r b = record { rec = r; book = b; fails = 0 }

-- Record and book after the supply came back: the record is what recovery of the area gives.
abbrev pub powered_on : List ℕ → Book → Played
powered_on area b = played (recovery (image_layout 4 256 area) 4 256 16 (0 ∷ 1 ∷ 2 ∷ 3 ∷ []) area).rec b

-- ---- their laws

module _ (v : Version) (limit : ℕ) (first : limit ≡ 4294967295) where
  pub following-limit : limit ≤ v.0 → versioned limit ≡ following v
  following-limit h = let same : limit ≡ min (v.0 + 1) 4294967295 = omega (arith, h, first) in ap versioned same

  pub following-next : v.0 < limit → versioned (v.0 + 1) ≡ following v
  following-next h = let same : v.0 + 1 ≡ min (v.0 + 1) 4294967295 = omega (arith, h, first) in ap versioned same

pub powered : (area : List ℕ) (b : Book) (r : Recovery) (m : ℕ) → r ≡ recovery (image_layout 4 256 area) 4 256 m (0 ∷ 1 ∷ 2 ∷ 3 ∷ []) area → m ≡ 16
    → played r.rec b ≡ powered_on area b
powered area b r m e long =
    ap (λ (x : Recovery). played x.rec b)
    (e ∙ ap (λ (k : ℕ). recovery (image_layout 4 256 area) 4 256 k (0 ∷ 1 ∷ 2 ∷ 3 ∷ []) area) long)
