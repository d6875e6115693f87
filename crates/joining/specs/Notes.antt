-- The first walk, as total functions of any area and any cells: for each latest entry of a key a note of the slots in which objects of
-- the key stand, other than the entry's own, and the bytes of the objects that are kept, as they are rewritten.
use Rattle.std.specs.Prelude.{ℕ, zero, suc, ◌+◌, ◌*◌, ◌-◌, ◌/◌, ◌≤◌, ◌<◌, ◌≡◌, Bool, true, not, List, [], ◌∷◌, eqb, leb, ltb, length, get_or, set}
use Rattle.segment.specs.Choice.{pick, either}
use Rattle.segment.specs.Layout.{Layout}
use Rattle.segment.specs.Entries.{header_of}
use Rattle.segment.specs.declared.Header.{Header}
use Rattle.slot_map.specs.Bit.{named}
use Rattle.model.specs.Log.{Item, Placed, place_of, placed_in}
use Rattle.index.specs.Search.{search_for}
use Rattle.index.specs.declared.Found.{Found}
use Rattle.cleaning.specs.Entries.{SlotsFit, items_in, slot_layout}
use Rattle.cleaning.specs.declared.Split.{Split}
use Rattle.joining.specs.declared.Sums.{Sums}

-- N and S within their limits and the area their product long, at most 4,096 cells, and a note for every 11 bytes.
pub record NotesFit (split : Split) (area cells notes : List ℕ) : Type 0 where
  pub slots : SlotsFit split area
  pub cells-few : length cells ≤ 4096
  pub notes-long : length notes ≡ 5958

-- ---- a note: 0 for no slot, s + 1 for the slot s alone, 64 for several

-- The note of the entry at a place. No entry is shorter than 11 bytes, so that no two have the same.
abbrev pub spot_of : ℕ → ℕ
spot_of place = place / 11

-- that of the entry of a cell
abbrev pub cell_spot : List ℕ → ℕ → ℕ
cell_spot cells c = spot_of (get_or cells c 0 - 1)

unfoldable pub note_with : ℕ → ℕ → ℕ
note_with n s = pick (eqb n 0) (s + 1) (pick (eqb n (s + 1)) n 64)

-- a slot other than j is noted
unfoldable pub tells_but : ℕ → ℕ → Bool
tells_but n j = not (either (eqb n 0) (eqb n (j + 1)))

-- A cell that is not 0 has, one higher, a place that is not in slot s.
unfoldable pub elsewhere : ℕ → ℕ → ℕ → Bool
elsewhere S s c = either (leb c (s * S)) (ltb (s * S + S) c)

-- ---- the walk

-- for the entry that a cell has
unfoldable pub note_newest : ℕ → ℕ → ℕ → List ℕ → List ℕ
note_newest S s newest notes = pick (elsewhere S s newest) (set notes (spot_of (newest - 1)) (note_with (get_or notes (spot_of (newest - 1)) 0) s)) notes

abbrev pub note_cell : ℕ → ℕ → List ℕ → List ℕ → ℕ → List ℕ
note_cell S s cells notes c = note_newest S s (get_or cells c 0) notes

unfoldable pub note_found : ℕ → ℕ → List ℕ → List ℕ → Found → List ℕ
note_found S s cells notes (Found.At c) = note_cell S s cells notes c
note_found S s cells notes (Found.Free c) = notes
note_found S s cells notes Found.Full = notes

-- a tombstone is not noted
unfoldable pub note_entry : List ℕ → List ℕ → ℕ → ℕ → List ℕ → Header → List ℕ
note_entry area cells S s notes h = pick h.tombstone notes (note_found S s cells notes (search_for area cells h.key))

unfoldable pub note_items : Layout → List ℕ → List ℕ → ℕ → ℕ → List ℕ → List Item → List ℕ
note_items K area cells S s notes [] = notes
note_items K area cells S s notes (x ∷ xs) = note_items K area cells S s (note_entry area cells S s notes (header_of K x.entry)) xs

-- a slot read in the layout K; in its own edition, nothing where it is not of the log; and the slots below n
abbrev pub note_slot : Layout → List ℕ → List ℕ → ℕ → List ℕ → ℕ → List ℕ
note_slot K area cells S notes s = note_items K area cells S s notes (items_in K area S s)

unfoldable pub note_part : List ℕ → List ℕ → Split → List ℕ → ℕ → List ℕ
note_part area cells split notes s =
    pick (named split.outside s) (note_slot (slot_layout area split.size s) area cells split.size notes s) notes

unfoldable pub note_below : List ℕ → List ℕ → Split → List ℕ → ℕ → List ℕ
note_below area cells split notes zero = notes
note_below area cells split notes (suc n) = note_part area cells split (note_below area cells split notes n) n

abbrev pub note_all : List ℕ → List ℕ → Split → List ℕ → List ℕ
note_all area cells split notes = note_below area cells split notes split.slots

-- ---- the objects that are kept

-- the bytes of an object at a place, whose key a search found there: it is kept if the cell has its place
unfoldable pub found_length : List ℕ → ℕ → ℕ → Found → ℕ
found_length cells place n (Found.At c) = pick (eqb (get_or cells c 0) (place + 1)) n 0
found_length cells place n (Found.Free c) = 0
found_length cells place n Found.Full = 0

unfoldable pub object_at : List ℕ → List ℕ → Header → ℕ → ℕ
object_at area cells h place = pick h.tombstone 0 (found_length cells place h.length (search_for area cells h.key))

-- as the objects are rewritten in the layout W of the new head (02, R-13)
unfoldable pub objects_of : Layout → List ℕ → List ℕ → ℕ → List Placed → ℕ
objects_of W area cells S [] = 0
objects_of W area cells S (x ∷ xs) = object_at area cells (header_of W x.entry) (place_of S x) + objects_of W area cells S xs

-- the bytes kept of the objects of slot i, read in the layout K
abbrev pub objects_read : Layout → Layout → List ℕ → List ℕ → ℕ → ℕ → ℕ
objects_read K W area cells S i = objects_of W area cells S (placed_in K i (items_in K area S i))

-- and in its own edition
abbrev pub slot_objects : Layout → List ℕ → List ℕ → ℕ → ℕ → ℕ
slot_objects W area cells S i = objects_read (slot_layout area S i) W area cells S i

-- ---- the tombstones

unfoldable pub tombstones_of : Layout → List Item → ℕ
tombstones_of W [] = 0
tombstones_of W (x ∷ xs) = pick (header_of W x.entry).tombstone (header_of W x.entry).length 0 + tombstones_of W xs

-- the bytes of the tombstones of slot i, rewritten in the same way
abbrev pub tombstones_read : Layout → Layout → List ℕ → ℕ → ℕ → ℕ
tombstones_read K W area S i = tombstones_of W (items_in K area S i)

abbrev pub tombstones_in : Layout → List ℕ → ℕ → ℕ → ℕ
tombstones_in W area S i = tombstones_read (slot_layout area S i) W area S i

-- ---- the sums of the slots

-- Rewritten in the other edition no entry takes twice its bytes.
pub record Summed (K W : Layout) (area cells : List ℕ) (S i : ℕ) (sums : Sums) : Type 0 where
  pub objects-are : sums.objects ≡ objects_read K W area cells S i
  pub tombstones-are : sums.tombstones ≡ tombstones_read K W area S i
  pub few : sums.objects + sums.tombstones ≤ 4096

-- The sums of the log slots below n.
pub record ObjectsCounted (W : Layout) (area cells : List ℕ) (split : Split) (n : ℕ) (totals : List ℕ) : Type 0 where
  pub counted : (i : ℕ) → i < n → named split.outside i ≡ true → get_or totals i 0 ≡ slot_objects W area cells split.size i
  pub few : (i : ℕ) → get_or totals i 0 ≤ 4096
  pub totals-long : length totals ≡ 32

pub record TombstonesCounted (W : Layout) (area : List ℕ) (split : Split) (n : ℕ) (tombstones : List ℕ) : Type 0 where
  pub tombstones-are : (i : ℕ) → i < n → named split.outside i ≡ true → get_or tombstones i 0 ≡ tombstones_in W area split.size i
  pub tombstones-long : length tombstones ≡ 32
