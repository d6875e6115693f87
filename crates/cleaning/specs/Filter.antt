-- A filter of keys, of one bit for each of 4,096 values of a key: it may have a key that it was not given, and has each that it was. The
-- keys of the victims' tombstones are put into it, and only for keys that it has a walk outside the victims searches the index.
use Rattle.std.specs.Prelude.{ℕ, ◌*◌, ◌/◌, Bool, List, replicate}
use Rattle.std.specs.Int.Bits.{bit_xor}
use Rattle.word.specs.Fnv.{wrapped}
use Rattle.segment.specs.Choice.{pick}
use Rattle.segment.specs.Layout.{Layout, edition1, edition2}
use Rattle.segment.specs.declared.Header.{Header}
use Rattle.segment.specs.declared.Key.{Key}
use Rattle.index.specs.Search.{search_for}
use Rattle.cleaning.specs.Marks.{is_marked, marked_with, mark_found}
use Rattle.cleaning.specs.Tombstones.{any_tombstone}
use Rattle.cleaning.specs.Walks.{walk_below}
use Rattle.cleaning.specs.declared.Split.{Split}

-- the upper 12 bits of a product with the key
unfoldable pub spread : Key → ℕ
spread k = wrapped (bit_xor k.key (k.table * 65536)) 2654435761 / 1048576

abbrev pub filter_has : List ℕ → Key → Bool
filter_has filter k = is_marked filter (spread k)

abbrev pub filter_with : List ℕ → Key → List ℕ
filter_with filter k = marked_with filter (spread k)

-- ---- the keys of the victims' tombstones

-- the edition of a walk that is made for one alone
abbrev pub edition_as : Bool → Layout
edition_as second = pick second edition2 edition1

unfoldable pub note_entry : List ℕ → Header → List ℕ
note_entry filter h = pick h.tombstone (filter_with filter h.key) filter

abbrev pub note_victims : List ℕ → Split → List ℕ → List ℕ
note_victims area split filter = walk_below note_entry area split.size split.victims filter split.slots

-- ---- the walk outside the victims

-- the cell of an object's key, where the filter has the key
unfoldable pub sift_entry : List ℕ → List ℕ → List ℕ → List ℕ → Header → List ℕ
sift_entry area cells filter marks h =
    pick h.tombstone marks (pick (filter_has filter h.key) (mark_found marks (search_for area cells h.key)) marks)

abbrev pub sift_outside : List ℕ → List ℕ → List ℕ → Split → List ℕ → List ℕ
sift_outside area cells filter split marks =
    walk_below (sift_entry area cells filter) area split.size split.outside marks split.slots

-- It is made only where a victim holds a tombstone.
unfoldable pub sift_needed : List ℕ → List ℕ → Split → List ℕ → List ℕ
sift_needed area cells split marks =
    pick (any_tombstone area split) (sift_outside area cells (note_victims area split (replicate 128 0)) split marks) marks
