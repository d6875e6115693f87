-- The second walk, over any area and any notes: what is kept of a tombstone by the other victim, and the numbers that a slot comes to
-- have.
use Rattle.std.specs.Prelude.{ℕ, ◌+◌, ◌*◌, ◌-◌, ◌≤◌, ◌<◌, ◌≡◌, Bool, true, false, not, List, [], ◌∷◌, eqb, leb, ltb, length, get_or, set}
use Rattle.segment.specs.Choice.{pick, both}
use Rattle.segment.specs.Layout.{Layout, digest_size}
use Rattle.segment.specs.Entries.{header_of}
use Rattle.segment.specs.declared.Header.{Header}
use Rattle.slot_map.specs.Bit.{named}
use Rattle.model.specs.Log.{Placed, place_of, placed_in}
use Rattle.index.specs.Build.{entries_at}
use Rattle.cleaning.specs.Entries.{items_in, slot_layout}
use Rattle.cleaning.specs.declared.Split.{Split}
use Rattle.joining.specs.declared.Share.{Share}
use Rattle.joining.specs.Notes.{spot_of, slot_objects}

-- ---- the share of an entry

-- of a tombstone, by its note
unfoldable pub note_share : ℕ → Share
note_share n = pick (eqb n 0) Share.Nothing (pick (ltb 32 n) Share.Whole (Share.Unless (n - 1)))

-- the first walk has counted the objects
unfoldable pub share_at : List ℕ → Header → ℕ → Share
share_at notes h place = pick h.tombstone (note_share (get_or notes (spot_of place) 0)) Share.Nothing

-- it is kept where the other victim is slot j
unfoldable pub share_kept : Share → ℕ → Bool
share_kept Share.Nothing j = false
share_kept Share.Whole j = true
share_kept (Share.Unless p) j = not (eqb p j)

-- ---- what is kept of a slot

abbrev pub weight_at : List ℕ → ℕ → Header → ℕ → ℕ
weight_at notes j h place = pick (share_kept (share_at notes h place) j) h.length 0

-- as they are rewritten in the layout W of the new head
unfoldable pub weight_of : Layout → List ℕ → ℕ → ℕ → List Placed → ℕ
weight_of W notes S j [] = 0
weight_of W notes S j (x ∷ xs) = weight_at notes j (header_of W x.entry) (place_of S x) + weight_of W notes S j xs

-- the bytes kept of the tombstones of slot i, read in the layout K, where the other victim is slot j
abbrev pub weight_read : Layout → Layout → List ℕ → List ℕ → ℕ → ℕ → ℕ → ℕ
weight_read K W area notes S i j = weight_of W notes S j (placed_in K i (items_in K area S i))

-- in its own edition
abbrev pub slot_tombstones : Layout → List ℕ → List ℕ → ℕ → ℕ → ℕ → ℕ
slot_tombstones W area notes S i j = weight_read (slot_layout area S i) W area notes S i j

-- and of all its entries
abbrev pub slot_weight : Layout → List ℕ → List ℕ → List ℕ → ℕ → ℕ → ℕ → ℕ
slot_weight W area cells notes S i j = slot_objects W area cells S i + slot_tombstones W area notes S i j

-- Where a walk from one offset of a segment has come to another, it has passed over no tombstone.
pub record Passed (K : Layout) (s : List ℕ) (from to : ℕ) : Type 0 where
  pub same : (W : Layout) (notes : List ℕ) (S i j : ℕ) →
      weight_of W notes S j (placed_in K i (entries_at K s from)) ≡ weight_of W notes S j (placed_in K i (entries_at K s to))
  pub forward : from ≤ to
  pub inside : to ≤ length s

-- ---- the numbers of the slots: for slot i and the other victim j the number at 32 i + j

abbrev pub Low : List ℕ → ℕ → ℕ → Type 0
Low shares base most = (j : ℕ) → j < 32 → get_or shares (base + j) 0 ≤ most

abbrev pub Clear : List ℕ → ℕ → Type 0
Clear shares from = (k : ℕ) → from ≤ k → get_or shares k 0 ≡ 0

abbrev pub ShareFits : Share → Type 0
ShareFits Share.Nothing = Unit
ShareFits Share.Whole = Unit
ShareFits (Share.Unless p) = p < 32

-- what an entry of n bytes adds to its slot's total, and to its numbers
unfoldable pub share_length : Share → ℕ → ℕ
share_length Share.Nothing n = 0
share_length Share.Whole n = n
share_length (Share.Unless p) n = n

unfoldable pub shares_with : List ℕ → ℕ → Share → ℕ → List ℕ
shares_with shares base Share.Nothing n = shares
shares_with shares base Share.Whole n = shares
shares_with shares base (Share.Unless p) n = set shares (base + p) (get_or shares (base + p) 0 + n)

-- A slot's numbers are what the total of its tombstones has more than is kept of them by the other victim; those of other slots stay.
pub record Weighed (K W : Layout) (area notes : List ℕ) (S i : ℕ) (shares shares' : List ℕ) (total : ℕ) : Type 0 where
  pub row : (j : ℕ) → j < 32 → get_or shares' (i * 32 + j) 0 + weight_read K W area notes S i j ≡ total
  pub below : (k : ℕ) → k < i * 32 → get_or shares' k 0 ≡ get_or shares k 0
  pub above : (k : ℕ) → i * 32 + 32 ≤ k → get_or shares' k 0 ≡ get_or shares k 0
  pub same_length : length shares' ≡ length shares
  pub small : total ≤ 4096

-- The numbers of the log slots below n; the totals of the others are those of the first walk.
pub record Rows (W : Layout) (area cells notes : List ℕ) (split : Split) (n : ℕ) (totals shares : List ℕ) : Type 0 where
  pub rows : (i : ℕ) → i < n → named split.outside i ≡ true → (j : ℕ) → j < 32 →
      get_or shares (i * 32 + j) 0 + slot_weight W area cells notes split.size i j ≡ get_or totals i 0
  pub rest : (i : ℕ) → n ≤ i → i < split.slots → named split.outside i ≡ true → get_or totals i 0 ≡ slot_objects W area cells split.size i
  pub few : (i : ℕ) → n ≤ i → get_or totals i 0 ≤ 4096
  pub clear : Clear shares (n * 32)
  pub shares-long : length shares ≡ 1024
  pub totals-long : length totals ≡ 32

-- ---- the test of a pair

-- by the numbers
unfoldable pub numbers_fit : List ℕ → List ℕ → Split → ℕ → ℕ → ℕ → Bool
numbers_fit totals shares split digest i j =
    both (both (named split.outside i) (named split.outside j))
    (leb (digest + get_or totals i 0 + get_or totals j 0) (split.size + get_or shares (i * 32 + j) 0 + get_or shares (j * 32 + i) 0))

-- by what is kept of the two
unfoldable pub weights_fit : Layout → List ℕ → List ℕ → List ℕ → Split → ℕ → ℕ → Bool
weights_fit W area cells notes split i j =
    both (both (named split.outside i) (named split.outside j))
    (leb (digest_size W + (slot_weight W area cells notes split.size i j + slot_weight W area cells notes split.size j i)) split.size)
