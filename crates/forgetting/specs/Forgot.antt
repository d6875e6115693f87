-- 02, R-4: what comes of the victim of a delete that finds no room, as total functions of any area and any cells. It is written in the layout W
-- of the new head (02, R-13).
use Rattle.std.specs.Prelude.{ℕ, ◌+◌, Bool, List, [], eqb, leb, length}
use Rattle.segment.specs.Choice.{pick}
use Rattle.segment.specs.Layout.{Layout, digest_size, table}
use Rattle.segment.specs.Written.{encoded_head}
use Rattle.segment.specs.declared.Header.{Header}
use Rattle.model.specs.Log.{placed_in}
use Rattle.cleaning.specs.Entries.{items_in, slot_layout}
use Rattle.cleaning.specs.Kept.{kept_entry, gather_by}
use Rattle.forgetting.specs.declared.Live.{Live}

-- the tombstone, if it is needed
unfoldable pub dead_bytes : Layout → Live → List ℕ
dead_bytes W live = pick live.needed (encoded_head W (table W).tombstone_kind live.key live.version) []

-- In the live object's place the tombstone or nothing; else the entry, of a slot of the layout K, where a cleaning keeps it.
abbrev pub forgot_entry : Layout → List ℕ → List ℕ → List ℕ → Live → Layout → Header → ℕ → List ℕ
forgot_entry W area cells marks live K h place = pick (eqb place live.place) (dead_bytes W live) (kept_entry W area cells marks K h place)

-- of a slot read in the layout K, and in its own edition
abbrev pub forgot_slot : Layout → Layout → List ℕ → List ℕ → List ℕ → Live → ℕ → ℕ → List ℕ
forgot_slot K W area cells marks live S i = gather_by (forgot_entry W area cells marks live) S (placed_in K i (items_in K area S i))

abbrev pub forgot_own : Layout → List ℕ → List ℕ → List ℕ → Live → ℕ → ℕ → List ℕ
forgot_own W area cells marks live S i = forgot_slot (slot_layout area S i) W area cells marks live S i

-- whether bytes fit a segment behind a digest
unfoldable pub fits_segment : Layout → ℕ → List ℕ → Bool
fits_segment W S bytes = leb (digest_size W + length bytes) S
