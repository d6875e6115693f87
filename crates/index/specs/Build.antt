-- The index rebuilt from the slots of an order list, as a total function of any area, map and order.
use Rattle.std.specs.Prelude.{ℕ, zero, suc, ◌+◌, ◌*◌, Bool, List, [], ◌∷◌, ◌++◌, leb, length, replicate, Some, None, Option}
use Rattle.segment.specs.Choice.{pick, both}
use Rattle.segment.specs.Layout.{Layout, digest_size}
use Rattle.segment.specs.Digest.{layout_in}
use Rattle.segment.specs.Entry.{entry, end, damage, entry_at, size_of}
use Rattle.slot_map.specs.Bit.{named}
use Rattle.model.specs.Log.{Item, Placed, segment_of, placed_in}
use Rattle.index.specs.Insert.{Tally, counted, over, insert_all}

-- the entries of a segment from an offset on, up to its end or to damage, which a log that is recovered does not have; f bounds how many there can be
unfoldable pub entries_from : Layout → List ℕ → ℕ → ℕ → List Item
entries_from L s zero at = []
entries_from L s (suc f) at =
    elim (entry_at L s at) [
      | entry e ↦ record { offset = at; entry = e } ∷ entries_from L s f (at + size_of L e)
      | end ↦ []
      | damage ↦ []
    ]

-- each is at least a byte long
abbrev pub entries_at : Layout → List ℕ → ℕ → List Item
entries_at L s at = entries_from L s (suc (length s)) at

-- a slot that the map names and whose segment lies within the area
unfoldable pub in_log : ℕ → ℕ → ℕ → ℕ → Bool
in_log area_length S map i = both (named map i) (leb (i * S + S) area_length)

-- the entries of one slot read in a layout
abbrev pub slot_entries : Layout → List ℕ → ℕ → ℕ → List Placed
slot_entries L area S i = placed_in L i (entries_at L (segment_of area S i) (digest_size L))

-- those of a slot in its own edition, none where it is not in the log, and those of the slots of a list in their order
abbrev pub listed_slot : List ℕ → ℕ → ℕ → ℕ → List Placed
listed_slot area S map i = pick (in_log (length area) S map i) (slot_entries (layout_in (segment_of area S i)) area S i) []

unfoldable pub listed : List ℕ → ℕ → ℕ → List ℕ → List Placed
listed area S map [] = []
listed area S map (i ∷ order) = listed_slot area S map i ++ listed area S map order

-- the number of keys in a rebuilt index, or none where they are more than it may hold
abbrev pub Built : Type 0
Built = Option ℕ

-- the tally that an answer stands for, with the cells
unfoldable pub tally_of : Built → List ℕ → Tally
tally_of (Some n) cells = counted cells n
tally_of None cells = over

-- What a rebuilding answers, and the cells that it leaves: with too many keys they are all 0.
pub record Rebuilt : Type 0 where
  pub answer : Built
  pub cells : List ℕ

unfoldable pub finished : ℕ → Tally → Rebuilt
finished m (counted cells n) = record { answer = Some n; cells = cells }
finished m over = record { answer = None; cells = replicate m 0 }

abbrev pub built : List ℕ → ℕ → ℕ → List ℕ → ℕ → Rebuilt
built area S map order m = finished m (insert_all area S (listed area S map order) (counted (replicate m 0) 0))
