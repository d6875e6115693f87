-- One bit for each cell of the index: the cells of the keys of which an object stands outside the victims.
use Rattle.std.specs.Prelude.{ℕ, zero, suc, Bool, List, [], ◌∷◌, replicate}
use Rattle.segment.specs.Choice.{pick}
use Rattle.segment.specs.Layout.{Layout}
use Rattle.segment.specs.Entries.{header_of}
use Rattle.segment.specs.declared.Header.{Header}
use Rattle.slot_map.specs.Bit.{named}
use Rattle.model.specs.Log.{Item}
use Rattle.index.specs.Search.{search_for}
use Rattle.index.specs.declared.Found.{Found}
use Rattle.cleaning.specs.Bits.{has_bit, bits_with}
use Rattle.cleaning.specs.Entries.{slot_layout, slot_items}
use Rattle.cleaning.specs.Tombstones.{any_tombstone}
use Rattle.cleaning.specs.declared.Split.{Split}

-- ---- the mark of a cell

-- a bit for each cell: 128 words for at most 4,096 cells
unfoldable pub is_marked : List ℕ → ℕ → Bool
is_marked marks c = has_bit 128 marks c

unfoldable pub marked_with : List ℕ → ℕ → List ℕ
marked_with marks c = bits_with 128 marks c

-- ---- the walk outside the victims, as a total function of any area and any cells

-- the cell that a search found
unfoldable pub mark_found : List ℕ → Found → List ℕ
mark_found marks (Found.At i) = marked_with marks i
mark_found marks (Found.Free i) = marks
mark_found marks Found.Full = marks

-- the cell of an object's key; a tombstone marks nothing
unfoldable pub mark_entry : List ℕ → List ℕ → List ℕ → Header → List ℕ
mark_entry area cells marks h = pick h.tombstone marks (mark_found marks (search_for area cells h.key))

unfoldable pub mark_items : Layout → List ℕ → List ℕ → List ℕ → List Item → List ℕ
mark_items L area cells marks [] = marks
mark_items L area cells marks (x ∷ xs) = mark_items L area cells (mark_entry area cells marks (header_of L x.entry)) xs

-- a slot in its own edition; nothing where it is not outside the victims; and the slots below n
abbrev pub mark_slot : List ℕ → List ℕ → Split → List ℕ → ℕ → List ℕ
mark_slot area cells split marks i = mark_items (slot_layout area split.size i) area cells marks (slot_items area split.size i)

unfoldable pub mark_part : List ℕ → List ℕ → Split → List ℕ → ℕ → List ℕ
mark_part area cells split marks i = pick (named split.outside i) (mark_slot area cells split marks i) marks

unfoldable pub mark_below : List ℕ → List ℕ → Split → List ℕ → ℕ → List ℕ
mark_below area cells split marks zero = marks
mark_below area cells split marks (suc n) = mark_part area cells split (mark_below area cells split marks n) n

abbrev pub mark_outside : List ℕ → List ℕ → Split → List ℕ → List ℕ
mark_outside area cells split marks = mark_below area cells split marks split.slots

-- The walk is made only where a victim holds a tombstone.
unfoldable pub mark_needed : List ℕ → List ℕ → Split → List ℕ → List ℕ
mark_needed area cells split marks = pick (any_tombstone area split) (mark_outside area cells split marks) marks

-- from no marks
abbrev pub marks_of : List ℕ → List ℕ → Split → List ℕ
marks_of area cells split = mark_needed area cells split (replicate 128 0)
