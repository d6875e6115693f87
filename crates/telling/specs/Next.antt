-- 01, "Operations, store by store": place and byte of the next store, from the record, the work buffer and the area's length.
use Rattle.std.specs.Prelude.{ℕ, Option, ◌+◌, ◌*◌, ◌-◌, ◌≤◌, ◌<◌, Bool, List, eqb, ltb, leb, length, get_or, None, Some}
use Rattle.segment.specs.Choice.{pick, both}
use Rattle.record.specs.declared.Pending.{Pending}
use Rattle.record.specs.declared.Pending.TheVariants.{Idle, Append, NewHead, Clean, Forget}
use Rattle.record.specs.declared.Record.{Record}
use Rattle.record.specs.declared.ToldStore.{ToldStore}
use Rattle.starting.specs.Stores.{commit_stores}
use Rattle.telling.specs.declared.Target.{Target}

-- Place and byte of the next store. A record that no start and no steps give may have none.
abbrev pub NextStore : Type 0
NextStore = Option ToldStore

-- The store after j others, where the first n bytes of the work buffer come to an offset of the slot that begins at `base`: the
-- bytes from the second on, the 0 after them, and last the kind byte.
unfoldable pub commit_store : ℕ → ℕ → ℕ → ℕ → List ℕ → ℕ → NextStore
commit_store base S offset n work j =
    pick (eqb (j + 1) (commit_stores S offset n)) (Some (record { place = (base + offset); byte = (get_or work 0 0) }))
    (pick (ltb (j + 1) n) (Some (record { place = (base + offset + (j + 1)); byte = (get_or work (j + 1) 0) })) (Some (record { place = (base + offset + n); byte = 0 })))

-- The bytes are some, all in the work buffer, and fit the slot, which lies in the area.
unfoldable pub fits_slot : ℕ → ℕ → ℕ → ℕ → ℕ → ℕ → Bool
fits_slot area_length work_length S slot offset n =
    both (ltb 0 n) (both (leb n work_length) (both (leb (offset + n) S) (leb (slot * S + S) area_length)))

-- as many stores left as there can be
unfoldable pub fits_left : ℕ → ℕ → Bool
fits_left left total = both (ltb 0 left) (leb left total)

-- The store of an operation with k stores left, which makes `first` stores of 0 at the slot's byte 0 before it commits.
unfoldable pub slot_store : ℕ → ℕ → ℕ → ℕ → List ℕ → ℕ → ℕ → NextStore
slot_store base S offset n work first j = pick (ltb j first) (Some (record { place = base; byte = 0 })) (commit_store base S offset n work (j - first))

unfoldable pub slot_next : ℕ → List ℕ → ℕ → ℕ → ℕ → ℕ → ℕ → ℕ → NextStore
slot_next area_length work S slot offset n first k =
    pick (both (fits_slot area_length (length work) S slot offset n) (fits_left k (commit_stores S offset n + first)))
    (slot_store (slot * S) S offset n work first (commit_stores S offset n + first - k)) None

-- Where the bytes of an operation go: an append commits at the head's end; a new head first loses its byte 0, and commits at its start.
abbrev pub head_target : ℕ → ℕ → ℕ → Target
head_target i n k = record { slot = i; offset = 0; count = n; first = 1; left = k }

unfoldable pub target_of : Pending → ℕ → ℕ → Target
target_of Idle head end = record { slot = 0; offset = 0; count = 0; first = 0; left = 0 }
target_of (Append n k) head end = record { slot = head; offset = end; count = n; first = 0; left = k }
target_of (NewHead i n k) head end = head_target i n k
target_of (Clean i v n k) head end = head_target i n k
target_of (Forget i v n k) head end = head_target i n k

-- The next store of a pending operation; none where nothing is pending.
unfoldable pub pending_next : ℕ → List ℕ → Record → Pending → NextStore
pending_next area_length work r Idle = None
pending_next area_length work r (Append n k) = slot_next area_length work r.size r.head r.end n 0 k
pending_next area_length work r (NewHead i n k) = slot_next area_length work r.size i 0 n 1 k
pending_next area_length work r (Clean i v n k) = slot_next area_length work r.size i 0 n 1 k
pending_next area_length work r (Forget i v n k) = slot_next area_length work r.size i 0 n 1 k

abbrev pub next_store : ℕ → List ℕ → Record → NextStore
next_store area_length work r = pending_next area_length work r r.pending

-- The pending operation's slot is one of the store's, and its bytes fit the segment.
unfoldable pub PendingIn : Record → Pending → Type 0
PendingIn r Idle = 0 ≤ 0
PendingIn r (Append n k) = (r.head < r.slots) × (r.end + n ≤ r.size)
PendingIn r (NewHead i n k) = (i < r.slots) × (n ≤ r.size)
PendingIn r (Clean i v n k) = (i < r.slots) × (n ≤ r.size)
PendingIn r (Forget i v n k) = (i < r.slots) × (n ≤ r.size)
