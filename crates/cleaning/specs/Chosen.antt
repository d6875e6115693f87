-- The entries that are kept, one bit for each eight bytes of the area: the walk that measures them notes them, and the walk that copies them
-- goes by the bits. No two entries start within the length of the shortest.
use Rattle.std.specs.Prelude.{ℕ, zero, suc, ◌/◌, ◌≡◌, Bool, List, [], ◌∷◌, ◌++◌, length}
use Rattle.segment.specs.Choice.{pick}
use Rattle.segment.specs.Layout.{Layout}
use Rattle.segment.specs.declared.Header.{Header}
use Rattle.slot_map.specs.Bit.{named}
use Rattle.model.specs.Log.{Placed, place_of, placed_in}
use Rattle.cleaning.specs.Bits.{has_bit, bits_with}
use Rattle.cleaning.specs.Entries.{SlotsFit, items_in, slot_layout, placed_header}
use Rattle.cleaning.specs.Kept.{moved_bytes, gather_by}
use Rattle.cleaning.specs.declared.Split.{Split}

-- The slots of an area, and 256 words of bits.
pub record ChosenFits (split : Split) (area chosen : List ℕ) : Type 0 where
  pub slots : SlotsFit split area
  pub chosen-long : length chosen ≡ 256

-- ---- the bit of a place

-- a bit for each eight bytes: 256 words for 65,536 bytes
unfoldable pub is_chosen : List ℕ → ℕ → Bool
is_chosen chosen place = has_bit 256 chosen (place / 8)

unfoldable pub chosen_with : List ℕ → ℕ → List ℕ
chosen_with chosen place = bits_with 256 chosen (place / 8)

-- ---- the walk that chooses, by a test of a header and a place

abbrev pub Test : Type 0
Test = Header → ℕ → Bool

unfoldable pub choose_entry : Test → List ℕ → Header → ℕ → List ℕ
choose_entry test chosen h place = pick (test h place) (chosen_with chosen place) chosen

unfoldable pub choose_placed : Test → ℕ → List ℕ → List Placed → List ℕ
choose_placed test S chosen [] = chosen
choose_placed test S chosen (x ∷ xs) = choose_placed test S (choose_entry test chosen (placed_header x) (place_of S x)) xs

-- a slot read in the layout K
abbrev pub choose_slot : Layout → Test → List ℕ → ℕ → List ℕ → ℕ → List ℕ
choose_slot K test area S chosen i = choose_placed test S chosen (placed_in K i (items_in K area S i))

-- in its own edition, nothing where it is no victim; and the slots below n
unfoldable pub choose_part : Test → List ℕ → Split → List ℕ → ℕ → List ℕ
choose_part test area split chosen i =
    pick (named split.victims i) (choose_slot (slot_layout area split.size i) test area split.size chosen i) chosen

unfoldable pub choose_below : Test → List ℕ → Split → List ℕ → ℕ → List ℕ
choose_below test area split chosen zero = chosen
choose_below test area split chosen (suc n) = choose_part test area split (choose_below test area split chosen n) n

abbrev pub choose_victims : Test → List ℕ → Split → List ℕ → List ℕ
choose_victims test area split chosen = choose_below test area split chosen split.slots

-- ---- the bytes of what is chosen, in the layout W of the new head

abbrev pub chosen_entry : Layout → List ℕ → List ℕ → Layout → Header → ℕ → List ℕ
chosen_entry W area chosen K h place = pick (is_chosen chosen place) (moved_bytes W area K h place) []

abbrev pub chosen_slot : Layout → Layout → List ℕ → List ℕ → ℕ → ℕ → List ℕ
chosen_slot K W area chosen S i = gather_by (chosen_entry W area chosen) S (placed_in K i (items_in K area S i))

unfoldable pub chosen_part : Layout → List ℕ → List ℕ → Split → ℕ → List ℕ
chosen_part W area chosen split i =
    pick (named split.victims i) (chosen_slot (slot_layout area split.size i) W area chosen split.size i) []

unfoldable pub chosen_below : Layout → List ℕ → List ℕ → Split → ℕ → List ℕ
chosen_below W area chosen split zero = []
chosen_below W area chosen split (suc n) = chosen_below W area chosen split n ++ chosen_part W area chosen split n

abbrev pub chosen_bytes : Layout → List ℕ → List ℕ → Split → List ℕ
chosen_bytes W area chosen split = chosen_below W area chosen split split.slots
