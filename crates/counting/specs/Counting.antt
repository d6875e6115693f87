-- 02, R-5: the present bytes of the slots at a commit, as total functions of any area and any numbers.
use Rattle.std.specs.Prelude.{ℕ, ◌/◌, List, set}
use Rattle.segment.specs.Area.{segment_of, object_at}
use Rattle.segment.specs.Choice.{pick}
use Rattle.segment.specs.Layout.{Layout, digest_size}
use Rattle.segment.specs.Digest.{layout_in}
use Rattle.segment.specs.declared.Header.{Header}
use Rattle.model.specs.Counts.{fewer_bytes, object_bytes, without_victims}
use Rattle.laws.specs.Scans.{item_entries}
use Rattle.index.specs.Build.{entries_at}

-- The object at a place counts no longer.
unfoldable pub lost_at : ℕ → List ℕ → ℕ → List ℕ → List ℕ
lost_at S area place c = fewer_bytes (place / S) (object_at area place) c

abbrev pub header_bytes : Header → ℕ
header_bytes h = pick h.tombstone 0 h.length

-- the objects of a segment from an offset on, and all of them
abbrev pub bytes_from : Layout → List ℕ → ℕ → ℕ
bytes_from L s at = object_bytes L (item_entries (entries_at L s at))

abbrev pub segment_bytes : Layout → List ℕ → ℕ
segment_bytes L s = bytes_from L s (digest_size L)

-- the same by the segment's own edition
abbrev pub own_bytes : List ℕ → ℕ
own_bytes s = segment_bytes (layout_in s) s

-- The victims have no present bytes, and the slot of the new head has those of the objects in its segment.
unfoldable pub renewed_at : ℕ → List ℕ → ℕ → ℕ → List ℕ → List ℕ
renewed_at S area slot victims c = set (without_victims victims 0 c) slot (own_bytes (segment_of area S slot))
