-- What the writers of an entry and of a digest leave in a slice.
use Rattle.std.specs.Prelude.{ℕ, List, ◌∷◌, ◌++◌}
use Rattle.word.specs.Number.{bytes_of}
use Rattle.segment.specs.Layout.{Layout, table}
use Rattle.segment.specs.Entry.{Entry, value_for}
use Rattle.segment.specs.declared.Key.{Key}
use Rattle.segment.specs.declared.Version.{Version}

-- the bytes of an entry before its value
abbrev pub encoded_head : Layout → ℕ → Key → Version → List ℕ
encoded_head L kind key version = kind ∷ bytes_of 2 key.table ++ bytes_of 4 key.key ++ bytes_of (table L).width version.0

-- the bytes of an entry of any kind and any bytes of value
abbrev pub encoded_as : Layout → ℕ → Key → Version → List ℕ → List ℕ
encoded_as L kind key version value = encoded_head L kind key version ++ value

-- the entry that a kind, a key, a version and the bytes of a value say
abbrev pub entry_of : Layout → ℕ → Key → Version → List ℕ → Entry
entry_of L kind key version value = record { table = key.table; key = key.key; version = version.0; value = value_for L kind value }
