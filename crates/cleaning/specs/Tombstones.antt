-- Whether a victim holds a tombstone, as a total function of any area: only then the marks are made.
use Rattle.std.specs.Prelude.{ℕ, Bool, false}
use mathlib.Core.List.{List, [], ◌∷◌}
use Rattle.segment.specs.Choice.{both, either}
use Rattle.segment.specs.Entry.{is_tombstone}
use Rattle.slot_map.specs.Bit.{named}
use Rattle.model.specs.Log.{Item}
use Rattle.laws.specs.LogLaws.{any_below}
use Rattle.cleaning.specs.Entries.{slot_items}
use Rattle.cleaning.specs.declared.Split.{Split}

unfoldable pub tombstone_in : List Item → Bool
tombstone_in [] = false
tombstone_in (x ∷ xs) = either (is_tombstone x.entry) (tombstone_in xs)

unfoldable pub victim_holds : List ℕ → Split → ℕ → Bool
victim_holds area split i = both (named split.victims i) (tombstone_in (slot_items area split.size i))

abbrev pub any_tombstone : List ℕ → Split → Bool
any_tombstone area split = any_below (victim_holds area split) split.slots
