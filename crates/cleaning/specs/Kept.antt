-- 01, "Operations, store by store", the cleaning: what is kept of the victims, as total functions of any area and any cells. The
-- test which entries are kept goes by the index.
use Rattle.std.specs.Prelude.{ℕ, zero, suc, ◌+◌, ◌<◌, ◌≡◌, Bool, false, not, List, [], ◌∷◌, ◌++◌, eqb, length, get_or, take, drop}
use Rattle.segment.specs.Choice.{pick, both, either}
use Rattle.segment.specs.Layout.{Layout, same_layout}
use Rattle.segment.specs.Rewritten.{entry_bytes}
use Rattle.segment.specs.declared.Header.{Header}
use Rattle.segment.specs.declared.Key.{Key}
use Rattle.slot_map.specs.Bit.{named}
use Rattle.model.specs.Log.{Placed, place_of, placed_in}
use Rattle.index.specs.Search.{search_for}
use Rattle.index.specs.declared.Found.{Found}
use Rattle.cleaning.specs.Entries.{items_in, slot_layout, placed_header}
use Rattle.cleaning.specs.Marks.{is_marked}
use Rattle.cleaning.specs.declared.Split.{Split}

-- ---- which entries

-- What a search found, a cell or none, is one of these cells.
abbrev pub FoundInside : List ℕ → Found → Type 0
FoundInside cells found = (i : ℕ) → found ≡ Found.At i → i < length cells

-- The cell that a search found has this place, and for a tombstone it is marked besides.
unfoldable pub cell_kept : List ℕ → List ℕ → Bool → ℕ → Found → Bool
cell_kept cells marks tombstone place (Found.At i) = both (eqb (get_or cells i 0) (place + 1)) (either (not tombstone) (is_marked marks i))
cell_kept cells marks tombstone place (Found.Free i) = false
cell_kept cells marks tombstone place Found.Full = false

-- An entry of the victims is kept if the index has it for its key, and a tombstone if besides the key's cell is marked: an
-- object of the key stands outside the victims.
unfoldable pub kept_at : List ℕ → List ℕ → List ℕ → Key → Bool → ℕ → Bool
kept_at area cells marks k tombstone place = cell_kept cells marks tombstone place (search_for area cells k)

abbrev pub kept_test : List ℕ → List ℕ → List ℕ → Header → ℕ → Bool
kept_test area cells marks h place = kept_at area cells marks h.key h.tombstone place

-- ---- and their bytes

-- What is kept is rewritten in the layout W of the new head (02, R-13): the bytes of the entry at a place, in a slot of the layout K. Where
-- the two are one they are the bytes that stand there.
unfoldable pub moved_bytes : Layout → List ℕ → Layout → Header → ℕ → List ℕ
moved_bytes W area K h place = pick (same_layout K W) (take h.length (drop place area)) (entry_bytes K W area place h)

-- those of an entry where the test picks it
abbrev pub kept_entry : Layout → List ℕ → List ℕ → List ℕ → Layout → Header → ℕ → List ℕ
kept_entry W area cells marks K h place = pick (kept_test area cells marks h place) (moved_bytes W area K h place) []

-- what each entry of a list gives by its slot's layout, its header and its place, one after the other
abbrev pub Part : Type 0
Part = Layout → Header → ℕ → List ℕ

unfoldable pub gather_by : Part → ℕ → List Placed → List ℕ
gather_by part S [] = []
gather_by part S (x ∷ xs) = part x.layout (placed_header x) (place_of S x) ++ gather_by part S xs

-- the bytes of those kept
abbrev pub gathered : Layout → List ℕ → List ℕ → List ℕ → ℕ → List Placed → List ℕ
gathered W area cells marks S xs = gather_by (kept_entry W area cells marks) S xs

-- those of a slot read in the layout K
abbrev pub kept_slot : Layout → Layout → List ℕ → List ℕ → List ℕ → ℕ → ℕ → List ℕ
kept_slot K W area cells marks S i = gathered W area cells marks S (placed_in K i (items_in K area S i))

-- in its own edition, nothing where it is no victim; and those of the slots below n
unfoldable pub kept_part : Layout → List ℕ → List ℕ → List ℕ → Split → ℕ → List ℕ
kept_part W area cells marks split i =
    pick (named split.victims i) (kept_slot (slot_layout area split.size i) W area cells marks split.size i) []

unfoldable pub kept_below : Layout → List ℕ → List ℕ → List ℕ → Split → ℕ → List ℕ
kept_below W area cells marks split zero = []
kept_below W area cells marks split (suc n) = kept_below W area cells marks split n ++ kept_part W area cells marks split n

abbrev pub kept_bytes : Layout → List ℕ → List ℕ → List ℕ → Split → List ℕ
kept_bytes W area cells marks split = kept_below W area cells marks split split.slots
