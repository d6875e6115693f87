-- The entries of the slots as a cleaning meets them, as total functions of any area: damage ends a segment.
use Rattle.std.specs.Prelude.{ℕ, ◌*◌, ◌≤◌, ◌≡◌, Bool, false, not, List, [], ◌∷◌, eqb, length}
use Rattle.segment.specs.Choice.{both, either}
use Rattle.segment.specs.Layout.{Layout, digest_size}
use Rattle.segment.specs.Digest.{layout_in}
use Rattle.segment.specs.Entries.{header_of}
use Rattle.segment.specs.declared.Header.{Header}
use Rattle.segment.specs.declared.Key.{Key}
use Rattle.slot_map.specs.Bit.{named}
use Rattle.model.specs.Log.{Item, Placed, segment_of}
use Rattle.laws.specs.LogLaws.{any_below}
use Rattle.index.specs.Build.{entries_at}
use Rattle.cleaning.specs.declared.Split.{Split}

-- ---- the slots of an area

-- N and S within their limits, and the area N × S bytes long, as the range test has found them.
pub record SlotsFit (split : Split) (area : List ℕ) : Type 0 where
  pub slots-high : split.slots ≤ 32
  pub size_low : 256 ≤ split.size
  pub size-high : split.size ≤ 2048
  pub whole : length area ≡ split.slots * split.size

-- The same with 128 words of marks.
pub record SplitFits (split : Split) (area marks : List ℕ) : Type 0 where
  pub slots : SlotsFit split area
  pub marks-long : length marks ≡ 128

-- the entries of a slot read in a layout
abbrev pub items_in : Layout → List ℕ → ℕ → ℕ → List Item
items_in L area S i = entries_at L (segment_of area S i) (digest_size L)

-- and in its own edition (02, R-11)
abbrev pub slot_layout : List ℕ → ℕ → ℕ → Layout
slot_layout area S i = layout_in (segment_of area S i)

abbrev pub slot_items : List ℕ → ℕ → ℕ → List Item
slot_items area S i = items_in (slot_layout area S i) area S i

-- the header of an entry of the log
abbrev pub placed_header : Placed → Header
placed_header x = header_of x.layout x.entry

-- ---- an object of a key

abbrev pub is_key_of : Key → Header → Bool
is_key_of k h = both (eqb k.table h.key.table) (eqb k.key h.key.key)

-- an entry that is an object of the key
unfoldable pub is_object : Key → Header → Bool
is_object k h = both (not h.tombstone) (is_key_of k h)

-- whether one of a segment's entries is
unfoldable pub object_in : Layout → Key → List Item → Bool
object_in L k [] = false
object_in L k (x ∷ xs) = either (is_object k (header_of L x.entry)) (object_in L k xs)

-- A log slot outside the victims holds an object of that key.
abbrev pub slot_holds : List ℕ → Split → Key → ℕ → Bool
slot_holds area split k i =
    both (named split.outside i) (object_in (slot_layout area split.size i) k (slot_items area split.size i))

abbrev pub object_below : List ℕ → Split → Key → Bool
object_below area split k = any_below (slot_holds area split k) split.slots
