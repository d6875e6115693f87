-- An entry put into the index, and a list of them one after the other, as total functions of any area and any cells.
use Rattle.std.specs.Prelude.{ℕ, ◌+◌, ◌-◌, List, [], ◌∷◌, ltb, length, get_or, set}
use Rattle.segment.specs.Choice.{pick}
use Rattle.segment.specs.Entry.{key_of}
use Rattle.segment.specs.declared.Key.{Key}
use Rattle.model.specs.Log.{Placed, place_of}
use Rattle.index.specs.Search.{version_at, search_for}
use Rattle.index.specs.declared.Found.{Found}
use Rattle.index.specs.declared.Inserted.{Inserted}

-- What an insertion answers, and the cells that it leaves.
pub record Insertion : Type 0 where
  pub answer : Inserted
  pub cells : List ℕ

-- By what the search for the key met: an entry that is indexed already gives way to a higher version only, and its place is told.
unfoldable pub inserted_at : List ℕ → List ℕ → ℕ → ℕ → Found → Insertion
inserted_at area cells place version (Found.At i) =
    pick (ltb (version_at area (get_or cells i 0 - 1)) version) (record { answer = Inserted.Newer (get_or cells i 0 - 1); cells = set cells i (place + 1) })
    (record { answer = Inserted.Older; cells = cells })
inserted_at area cells place version (Found.Free i) = record { answer = Inserted.New; cells = set cells i (place + 1) }
inserted_at area cells place version Found.Full = record { answer = Inserted.Full; cells = cells }

abbrev pub inserted : List ℕ → List ℕ → ℕ → Key → ℕ → Insertion
inserted area cells place k version = inserted_at area cells place version (search_for area cells k)

-- ---- many entries

-- The cells and the number of keys so far, which stays below the number of cells, or over: a key more than that (01, cause 20).
pub data Tally : Type 0 where
  counted : List ℕ → ℕ → Tally
  over : Tally

unfoldable pub tallied : Inserted → List ℕ → ℕ → Tally
tallied Inserted.New cells n = pick (ltb (n + 1) (length cells)) (counted cells (n + 1)) over
tallied (Inserted.Newer old) cells n = counted cells n
tallied Inserted.Older cells n = counted cells n
tallied Inserted.Full cells n = over

-- one entry more
abbrev pub insert_one : List ℕ → ℕ → Key → ℕ → List ℕ → ℕ → Tally
insert_one area place k version cells n =
    let i = inserted area cells place k version in
    tallied i.answer i.cells n

unfoldable pub insert_next : List ℕ → ℕ → Placed → Tally → Tally
insert_next area S x (counted cells n) = insert_one area (place_of S x) (key_of x.entry) x.entry.version cells n
insert_next area S x over = over

unfoldable pub insert_all : List ℕ → ℕ → List Placed → Tally → Tally
insert_all area S [] s = s
insert_all area S (x ∷ xs) s = insert_all area S xs (insert_next area S x s)
