-- 01, "Bytes of a segment" and "The log and its map": what the bytes of an area mean.
use Rattle.std.specs.Prelude.{ℕ, zero, suc, ◌+◌, ◌*◌, max, Bool, true, false, List, [], ◌∷◌, ◌++◌, eqb, ltb, length}
use Rattle.std.proofs.Math.Option.{Option, none, some}
use Rattle.segment.specs.Choice.{pick, both, either}
use Rattle.segment.specs.Layout.{Layout, digest_size}
use Rattle.segment.specs.Entry.{Entry, entry, end, damage, entry_at, is_tombstone, size_of, kind_of, key_of}
pub use Rattle.segment.specs.Area.{segment_of}
use Rattle.segment.specs.Digest.{layout_in, is_digest, digest_of}
use Rattle.segment.specs.declared.Digest.{Digest}
use Rattle.segment.specs.declared.Key.{Key}

-- ---- the entries of one segment

-- An entry and the offset in its segment at which it stands.
pub record Item : Type 0 where
  pub offset : ℕ
  pub entry : Entry

-- A segment's items with the offset at which they end, or damage.
pub data Scan : Type 0 where
  damaged : Scan
  scanned : List Item → ℕ → Scan

unfoldable pub item_first : Item → Scan → Scan
item_first i damaged = damaged
item_first i (scanned is e) = scanned (i ∷ is) e

-- the entries from an offset on, one after the other up to the end; f bounds how many there can be
unfoldable pub scan_from : Layout → List ℕ → ℕ → ℕ → Scan
scan_from L s zero at = damaged
scan_from L s (suc f) at =
    elim (entry_at L s at) [
      | entry e ↦ item_first (record { offset = at; entry = e }) (scan_from L s f (at + size_of L e))
      | end ↦ scanned [] at
      | damage ↦ damaged
    ]

-- Entries start behind the digest.
abbrev pub scan : Layout → List ℕ → Scan
scan L s = scan_from L s (suc (length s)) (digest_size L)

unfoldable pub items_of : Scan → List Item
items_of damaged = []
items_of (scanned is e) = is

unfoldable pub end_of : Scan → ℕ
end_of damaged = 0
end_of (scanned is e) = e

unfoldable pub is_damaged : Scan → Bool
is_damaged damaged = true
is_damaged (scanned is e) = false

-- ---- one slot, and the slots of an area

-- What matters of a slot: its edition, told by its byte 0 (02, R-11), its digest, if byte 0 is the kind of one, and its entries.
pub record View : Type 0 where
  pub layout : Layout
  pub digest : Option Digest
  pub scan : Scan

unfoldable pub digest_in : List ℕ → Option Digest
digest_in s = pick (is_digest s) (some (digest_of (layout_in s) s)) none

abbrev pub view_of : List ℕ → View
view_of s = record { layout = layout_in s; digest = digest_in s; scan = scan (layout_in s) s }

-- the slots of an area of S bytes each
abbrev pub views_of : List ℕ → ℕ → (ℕ → View)
views_of area S i = view_of (segment_of area S i)

-- ---- the head

-- A slot and its digest.
pub record Head : Type 0 where
  pub slot : ℕ
  pub digest : Digest

-- the later of the newest so far and slot i: only a higher number is newer
unfoldable pub newer : Option Head → ℕ → Option Digest → Option Head
newer h i none = h
newer none i (some d) = some (record { slot = i; digest = d })
newer (some h) i (some d) = pick (ltb h.digest.number.0 d.number.0) (some (record { slot = i; digest = d })) (some h)

-- The head of the slots below n: the one whose digest number is highest, if any of them has a digest, of either edition.
unfoldable pub head_of : (ℕ → View) → ℕ → Option Head
head_of v zero = none
head_of v (suc n) = newer (head_of v n) n (v n).digest

-- ---- the log

-- An entry with its slot, the edition of that slot (02, R-11), and its offset there.
pub record Placed : Type 0 where
  pub slot : ℕ
  pub layout : Layout
  pub offset : ℕ
  pub entry : Entry

-- its place in the area
abbrev pub place_of : ℕ → Placed → ℕ
place_of S x = x.slot * S + x.offset

-- how many bytes it takes there, and its kind
abbrev pub placed_size : Placed → ℕ
placed_size x = size_of x.layout x.entry

abbrev pub placed_kind : Placed → ℕ
placed_kind x = kind_of x.layout x.entry

unfoldable pub placed_in : Layout → ℕ → List Item → List Placed
placed_in L i [] = []
placed_in L i (x ∷ xs) = record { slot = i; layout = L; offset = x.offset; entry = x.entry } ∷ placed_in L i xs

-- The log of the slots below n that p picks: ascending slot, then offset.
unfoldable pub log_of : (ℕ → View) → (ℕ → Bool) → ℕ → List Placed
log_of v p zero = []
log_of v p (suc n) = log_of v p n ++ pick (p n) (placed_in (v n).layout n (items_of (v n).scan)) []

-- ---- the map of a log

-- whether two keys are one
unfoldable pub same_keys : Key → Key → Bool
same_keys a b = both (eqb a.table b.table) (eqb a.key b.key)

-- whether an entry is of a key
unfoldable pub same_key : Key → Entry → Bool
same_key k e = same_keys k (key_of e)

-- the newer of two entries of one key
unfoldable pub later_of : Placed → Option Placed → Option Placed
later_of x none = some x
later_of x (some y) = pick (ltb x.entry.version y.entry.version) (some y) (some x)

-- The entry of a key with the highest version in the log, if the log has any.
unfoldable pub latest : List Placed → Key → Option Placed
latest [] k = none
latest (x ∷ xs) k = pick (same_key k x.entry) (later_of x (latest xs k)) (latest xs k)

unfoldable pub object_only : Option Placed → Option Placed
object_only none = none
object_only (some x) = pick (is_tombstone x.entry) none (some x)

-- Whether a key is present is decided by its entry with the highest version: an object makes it so, and has its value.
unfoldable pub present : List Placed → Key → Option Placed
present log k = object_only (latest log k)

-- the entry of a key, if there is one, has that version
unfoldable pub is_version : Option Placed → ℕ → Bool
is_version none v = false
is_version (some x) v = eqb x.entry.version v

-- whether the log has any entry of a key
unfoldable pub has_key : List Placed → Key → Bool
has_key [] k = false
has_key (x ∷ xs) k = either (same_key k x.entry) (has_key xs k)

-- the keys with any entry in the log, each once
unfoldable pub keys_of : List Placed → List Key
keys_of [] = []
keys_of (x ∷ xs) = pick (has_key xs (key_of x.entry)) (keys_of xs) (key_of x.entry ∷ keys_of xs)

-- whether two entries of the log have one version
unfoldable pub has_version : List Placed → ℕ → Bool
has_version [] v = false
has_version (x ∷ xs) v = either (eqb x.entry.version v) (has_version xs v)

unfoldable pub version_shared : List Placed → Bool
version_shared [] = false
version_shared (x ∷ xs) = either (has_version xs x.entry.version) (version_shared xs)

-- the highest version in the log, 0 in an empty one
unfoldable pub highest : List Placed → ℕ
highest [] = 0
highest (x ∷ xs) = max x.entry.version (highest xs)

-- The next version is above every version in the log, and not below what the head's digest says.
abbrev pub next_version : Digest → List Placed → ℕ
next_version d log = max d.next.0 (highest log + 1)
