-- A walk over the slots that a map names: what the header of each entry makes of some words, as a total function of any area.
-- Damage ends a segment.
use Prim.Native.Nat.{ℕ, zero, suc}
use mathlib.Core.List.{List, [], ◌∷◌}
use Rattle.segment.specs.Choice.{pick}
use Rattle.segment.specs.Layout.{Layout}
use Rattle.segment.specs.Entries.{header_of}
use Rattle.segment.specs.declared.Header.{Header}
use Rattle.slot_map.specs.Bit.{named}
use Rattle.model.specs.Log.{Item}
use Rattle.cleaning.specs.Entries.{items_in, slot_layout}

-- what a walk does at a header
abbrev pub Step : Type 0
Step = List ℕ → Header → List ℕ

unfoldable pub walk_items : Layout → Step → List ℕ → List Item → List ℕ
walk_items L step words [] = words
walk_items L step words (x ∷ xs) = walk_items L step (step words (header_of L x.entry)) xs

-- a slot read in a layout
abbrev pub walk_slot : Layout → Step → List ℕ → ℕ → List ℕ → ℕ → List ℕ
walk_slot L step area S words i = walk_items L step words (items_in L area S i)

-- in its own edition (02, R-11), nothing where the map does not name it; and the slots below n
unfoldable pub walk_part : Step → List ℕ → ℕ → ℕ → List ℕ → ℕ → List ℕ
walk_part step area S map words i = pick (named map i) (walk_slot (slot_layout area S i) step area S words i) words

unfoldable pub walk_below : Step → List ℕ → ℕ → ℕ → List ℕ → ℕ → List ℕ
walk_below step area S map words zero = words
walk_below step area S map words (suc n) = walk_part step area S map (walk_below step area S map words n) n
