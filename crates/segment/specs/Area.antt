-- 01, "Bytes of a segment": the segments of an area, and what stands at a place of the area.
use Rattle.std.specs.Prelude.{ℕ, ◌*◌, List, take, drop, get_or}
use Rattle.segment.specs.Layout.{Layout, layout_of_kind}
use Rattle.segment.specs.Entry.{Found, entry_at, answer}
use Rattle.segment.specs.declared.Read.{Read}

-- The segment of a slot, as a part of the area (01, "Bytes of a segment").
abbrev pub segment_of : List ℕ → ℕ → ℕ → List ℕ
segment_of area S i = take S (drop (i * S) area)

-- The edition of an entry, which is its slot's, is told by its kind (02, R-11): no kind is one of both.
abbrev pub layout_at : List ℕ → ℕ → Layout
layout_at area p = layout_of_kind (get_or area p 0)

-- What stands at a place of the area, by that edition. An entry that stands in its segment stands there (`found-place`).
abbrev pub found_at : List ℕ → ℕ → Found
found_at area p = entry_at (layout_at area p) area p

-- the reader's enum for it
abbrev pub stands_at : List ℕ → ℕ → Read
stands_at area p = answer (layout_at area p) (found_at area p)

-- an object's whole length; a tombstone counts for nothing, as does a place where no entry stands
unfoldable pub object_length : Read → ℕ
object_length (Read.Object k v kind n) = n
object_length (Read.Tombstone k v n) = 0
object_length Read.End = 0
object_length Read.Damage = 0

abbrev pub object_at : List ℕ → ℕ → ℕ
object_at area p = object_length (stands_at area p)
