-- 01, "Operations, store by store": what a start lays out, what each step stores, and the record after the last one.
use Rattle.std.specs.Prelude.{ℕ, zero, suc, ◌+◌, ◌*◌, ◌-◌, ◌^◌, ◌<◌, Bool, false, not, List, [], ◌∷◌, ◌++◌, eqb, ltb, leb, length, get_or, drop, set}
use Rattle.std.proofs.Math.Option.{Option, none, some}
use Rattle.word.specs.Number.{Bytes}
use Rattle.segment.specs.Choice.{pick, both, either}
use Rattle.segment.specs.Layout.{Layout, entry_size, digest_size, version_limit}
use Rattle.segment.specs.Entry.{Entry, is_tombstone, encoded, size_of, key_of}
use Rattle.segment.specs.Digest.{encoded_digest}
use Rattle.segment.specs.declared.Digest.{Digest}
use Rattle.segment.specs.declared.Key.{Key}
use Rattle.segment.specs.declared.Version.{Version}
use Rattle.slot_map.specs.Bit.{named}
use Rattle.slot_map.specs.Count.{free}
use Rattle.slot_map.specs.Next.{next_free}
use Rattle.record.specs.Answers.{with_pending}
use Rattle.record.specs.Committed.{committed}
use Rattle.record.specs.Switch.{new_layout}
use Rattle.record.specs.declared.Commit.{Commit}
use Rattle.record.specs.declared.Pending.{Pending}
use Rattle.record.specs.declared.Pending.TheVariants.{Idle, Append, NewHead, Clean, Forget}
use Rattle.record.specs.declared.Record.{Record}
use Rattle.model.specs.Log.{Placed, views_of, log_of, latest, present, has_key, keys_of, same_key}
unfoldable pub use Rattle.model.specs.Log.{is_version}
use Rattle.model.specs.Counts.{entry_counts, renewed_counts}

-- The three operations: write a value under a key, delete a key, clean a slot map of victims.
pub data Operation : Type 0 where
  write : Key → List ℕ → Operation
  delete : Key → Operation
  clean : ℕ → Operation

-- A call's arguments are of their types: a table is 16 bits wide, a key 32, and a value is bytes.
abbrev pub TypedKey : Key → Type 0
TypedKey k = (k.table < 256 ^ 2) × (k.key < 256 ^ 4)

abbrev pub Typed : Operation → Type 0
Typed (write k value) = TypedKey k × Bytes value
Typed (delete k) = TypedKey k
Typed (clean victims) = victims < 256 ^ 4

-- the log of the area under a record's map
abbrev pub log_now : List ℕ → Record → List Placed
log_now area r = log_of (views_of area r.size) (named r.map) r.slots

-- ---- what a start lays out

-- The entry of a write takes the next version, and so does the tombstone of a delete.
abbrev pub written_entry : Record → Key → List ℕ → Entry
written_entry r k value = record { table = k.table; key = k.key; version = r.next.0; value = some value }

abbrev pub tombstone_entry : Record → Key → Entry
tombstone_entry r k = record { table = k.table; key = k.key; version = r.next.0; value = none }

-- An entry of n bytes fits the head: it may end exactly at S, and the versions of the head's edition last (02, R-13: past them an entry
-- counts as not fitting).
abbrev pub fits_with : Layout → Record → ℕ → Bool
fits_with L r n = both (leb (r.end + n) r.size) (ltb r.next.0 (version_limit L))

abbrev pub fits_head : Layout → Record → Entry → Bool
fits_head L r e = fits_with L r (size_of L e)

-- An entry of n bytes finds no room: it does not fit the head, and fewer than two slots are free.
abbrev pub no_room : Layout → Record → ℕ → Bool
no_room L r n = both (not (fits_with L r n)) (ltb (free r.slots r.map) 2)

-- The slot of a new head: from the old head upwards, and from slot 0 on again, the first that is free.
abbrev pub new_slot : Record → ℕ
new_slot r = next_free r.slots r.map r.head

-- Its digest has the next number, names the new slot and no victim, and has a next version,
abbrev pub digest_with : Record → ℕ → Version → Digest
digest_with r victims next =
    record { number = record { 0 = r.digest.0 + 1 }; map = r.map - victims + 2 ^ new_slot r; next = next }

-- which is the one that the record had.
abbrev pub new_digest : Record → ℕ → Digest
new_digest r victims = digest_with r victims r.next

-- The next version once the operation has taken its own.
abbrev pub next_after : Record → Version
next_after r = record { 0 = r.next.0 + 1 }

-- An entry of the log is its key's highest version there.
abbrev pub is_highest : List Placed → Entry → Bool
is_highest log e = is_version (latest log (key_of e)) e.version

-- A log slot outside the victims holds an object of that key.
unfoldable pub object_outside : ℕ → List Placed → Key → Bool
object_outside victims [] k = false
object_outside victims (x ∷ xs) k =
    either (both (both (not (named victims x.slot)) (same_key k x.entry)) (not (is_tombstone x.entry)))
    (object_outside victims xs k)

-- A victim's entry stays only where no entry of its key has a higher version; a tombstone must besides have an object of its key
-- outside the victims to hide.
abbrev pub is_kept : ℕ → List Placed → Placed → Bool
is_kept victims log x =
    both (named victims x.slot)
    (both (is_highest log x.entry) (either (not (is_tombstone x.entry)) (object_outside victims log (key_of x.entry))))

-- those of xs that are kept in a cleaning of the log, in their order
unfoldable pub kept_of : ℕ → List Placed → List Placed → List Entry
kept_of victims log [] = []
kept_of victims log (x ∷ xs) = pick (is_kept victims log x) (x.entry ∷ kept_of victims log xs) (kept_of victims log xs)

-- The entries kept of the log, by ascending slot and then offset.
abbrev pub kept : ℕ → List Placed → List Entry
kept victims log = kept_of victims log log

unfoldable pub all_encoded : Layout → List Entry → List ℕ
all_encoded L [] = []
all_encoded L (e ∷ es) = encoded L e ++ all_encoded L es

-- What a start lays down: the pending operation, but for its stores left, and the bytes for the work buffer.
pub record Laid : Type 0 where
  pub pending : ℕ → Pending
  pub bytes : List ℕ

-- an entry appended to the head, and one in a new head behind its digest
abbrev pub laid_append : Layout → Entry → Laid
laid_append L e = record { pending = λ k. Append (size_of L e) k; bytes = encoded L e }

abbrev pub laid_head : Layout → Record → Entry → Laid
laid_head L r e =
    record {
      pending = λ k. NewHead (new_slot r) (digest_size L + size_of L e) k;
      bytes = encoded_digest L (new_digest r 0) ++ encoded L e;
    }

-- An entry is appended to the head if it fits, else it comes to a new head. L is the head's edition; a new head is of the edition that
-- the record has for new heads (02, R-13), and so is all that stands in it.
abbrev pub laid_entry : Layout → Record → Entry → Laid
laid_entry L r e = pick (fits_head L r e) (laid_append L e) (laid_head (new_layout r) r e)

abbrev pub laid_clean : Layout → Record → List Placed → ℕ → Laid
laid_clean L r log victims =
    record {
      pending = λ k. Clean (new_slot r) victims (digest_size L + length (all_encoded L (kept victims log))) k;
      bytes = encoded_digest L (new_digest r victims) ++ all_encoded L (kept victims log);
    }

-- 02, R-4: a delete that finds no room cleans the one slot with the live object.

-- the log with an entry in the place of the one that has version v
unfoldable pub replaced : ℕ → Entry → List Placed → List Placed
replaced v e [] = []
replaced v e (x ∷ xs) =
    record { slot = x.slot; layout = x.layout; offset = x.offset; entry = pick (eqb x.entry.version v) e x.entry } ∷ replaced v e xs

-- the log with an entry in the place of a live object, and the slot of the object
unfoldable pub replaced_by : Entry → List Placed → Option Placed → List Placed
replaced_by e log none = log
replaced_by e log (some x) = replaced x.entry.version e log

unfoldable pub slot_of : Option Placed → ℕ
slot_of none = 0
slot_of (some x) = x.slot

-- The log in which the tombstone stands where the key's live object stood,
abbrev pub forgotten_log : Record → List Placed → Key → List Placed
forgotten_log r log k = replaced_by (tombstone_entry r k) log (present log k)

-- and the slot map of the one victim.
abbrev pub forget_victim : List Placed → Key → ℕ
forget_victim log k = 2 ^ slot_of (present log k)

-- What a cleaning of the victim keeps of that log: in the object's place the tombstone, if an object of the key stands outside the
-- victim, and else nothing.
abbrev pub forget_kept : Record → List Placed → Key → List Entry
forget_kept r log k = kept (forget_victim log k) (forgotten_log r log k)

-- Its digest alone has the next version after the operation, since no entry may have the operation's own.
abbrev pub forget_digest : Record → List Placed → Key → Digest
forget_digest r log k = digest_with r (forget_victim log k) (next_after r)

abbrev pub laid_forget : Layout → Record → List Placed → Key → Laid
laid_forget L r log k =
    record {
      pending = λ n. Forget (new_slot r) (forget_victim log k) (digest_size L + length (all_encoded L (forget_kept r log k))) n;
      bytes = encoded_digest L (forget_digest r log k) ++ all_encoded L (forget_kept r log k);
    }

-- A delete goes that way if its tombstone finds no room.
abbrev pub laid_delete : Layout → Record → List Placed → Key → Laid
laid_delete L r log k = pick (no_room L r (entry_size L 0)) (laid_forget (new_layout r) r log k) (laid_entry L r (tombstone_entry r k))

unfoldable pub laid : Layout → Record → List Placed → Operation → Laid
laid L r log (write k value) = laid_entry L r (written_entry r k value)
laid L r log (delete k) = laid_delete L r log k
laid L r log (clean victims) = laid_clean (new_layout r) r log victims

-- ---- the stores, in order: each is a place in the area and a byte

unfoldable pub stores_from : ℕ → List ℕ → List (ℕ × ℕ)
stores_from p [] = []
stores_from p (b ∷ bs) = (p, b) ∷ stores_from (p + 1) bs

-- Bytes that come to stand at an offset of a slot: all but the first, one after the other; then an end behind them where the slot
-- has room; then the first, the kind byte, which makes them count.
abbrev pub commit : ℕ → ℕ → ℕ → List ℕ → List (ℕ × ℕ)
commit S slot offset bytes =
    stores_from (slot * S + offset + 1) (drop 1 bytes) ++
    pick (ltb (offset + length bytes) S) ((slot * S + offset + length bytes, 0) ∷ []) [] ++
    (slot * S + offset, get_or bytes 0 0) ∷ []

-- An append commits at the head's end. A new head first loses its byte 0, and commits at its start.
unfoldable pub plan_of : Record → Pending → List ℕ → List (ℕ × ℕ)
plan_of r Idle bytes = []
plan_of r (Append n k) bytes = commit r.size r.head r.end bytes
plan_of r (NewHead i n k) bytes = (i * r.size, 0) ∷ commit r.size i 0 bytes
plan_of r (Clean i v n k) bytes = (i * r.size, 0) ∷ commit r.size i 0 bytes
plan_of r (Forget i v n k) bytes = (i * r.size, 0) ∷ commit r.size i 0 bytes

-- The stores of an operation that is started on this record and log, and how many they are.
abbrev pub plan_for : Layout → Record → List Placed → Operation → List (ℕ × ℕ)
plan_for L r log o = plan_of r ((laid L r log o).pending 0) (laid L r log o).bytes

abbrev pub stores_for : Layout → Record → List Placed → Operation → ℕ
stores_for L r log o = length (plan_for L r log o)

-- The record once the operation is started.
abbrev pub started_record : Layout → Record → List Placed → Operation → Record
started_record L r log o = with_pending r ((laid L r log o).pending (stores_for L r log o))

-- the area after stores
unfoldable pub stored : List ℕ → List (ℕ × ℕ) → List ℕ
stored area [] = area
stored area (x ∷ xs) = stored (set area x.0 x.1) xs

-- ---- the last step

-- The version that the last step tells: the operation's own, 0 for a cleaning.
unfoldable pub told_version : Record → Operation → ℕ
told_version r (write k value) = r.next.0
told_version r (delete k) = r.next.0
told_version r (clean victims) = 0

-- the slots of a map outside the victims
abbrev pub outside_slots : ℕ → ℕ → ℕ → Bool
outside_slots map victims i = both (named map i) (not (named victims i))

-- how many keys an entry of key k adds to those of the log
unfoldable pub count_new : List Placed → Key → ℕ
count_new log k = pick (has_key log k) 0 1

-- entries of a new head, where they come to stand behind its digest
unfoldable pub placed_from : Layout → ℕ → ℕ → List Entry → List Placed
placed_from L i at [] = []
placed_from L i at (e ∷ es) = record { slot = i; layout = L; offset = at; entry = e } ∷ placed_from L i (at + size_of L e) es

-- What the last store makes of the head and the counters: n more bytes in the head, and the next version is taken.
abbrev pub append_commit : Record → ℕ → Commit
append_commit r n =
    record { edition = r.edition; head = r.head; end = r.end + n; digest = r.digest; map = r.map; next = next_after r }

-- A new head of an edition with n bytes in a slot, with this map and this next version; the digest number is one higher.
abbrev pub head_commit : Layout → Record → ℕ → ℕ → ℕ → Version → Commit
head_commit L r slot n map next =
    record { edition = L; head = slot; end = n; digest = record { 0 = r.digest.0 + 1 }; map = map; next = next }

-- the record once an entry is at the head's end, or in a new head
abbrev pub appended_record : Layout → Record → List Placed → Entry → Record
appended_record L r log e =
    committed r (append_commit r (size_of L e)) (r.keys + count_new log (key_of e)) (entry_counts L log r.head e r.counts)

abbrev pub headed_record : Layout → Record → List Placed → Entry → Record
headed_record L r log e =
    committed r (head_commit L r (new_slot r) (digest_size L + size_of L e) (new_digest r 0).map (next_after r))
    (r.keys + count_new log (key_of e)) (entry_counts L log (new_slot r) e r.counts)

abbrev pub entry_record : Layout → Record → List Placed → Entry → Record
entry_record L r log e = pick (fits_head L r e) (appended_record L r log e) (headed_record (new_layout r) r log e)

-- The log that a cleaning leaves, but for the order of its slots: what stands outside the victims, and the entries kept.
abbrev pub renewed_log : Layout → List ℕ → Record → ℕ → List Entry → List Placed
renewed_log L area r victims es =
    log_of (views_of area r.size) (outside_slots r.map victims) r.slots ++ placed_from L (new_slot r) (digest_size L) es

abbrev pub renewed_record : Layout → List ℕ → Record → ℕ → List Entry → Version → Record
renewed_record L area r victims es next =
    committed r (head_commit L r (new_slot r) (digest_size L + length (all_encoded L es)) (new_digest r victims).map next)
    (length (keys_of (renewed_log L area r victims es))) (renewed_counts L victims (new_slot r) es r.counts)

-- A cleaning keeps the next version; a delete that cleans has taken it.
abbrev pub cleaned_record : Layout → List ℕ → Record → ℕ → Record
cleaned_record L area r victims = renewed_record L area r victims (kept victims (log_now area r)) r.next

abbrev pub forgotten_record : Layout → List ℕ → Record → Key → Record
forgotten_record L area r k =
    renewed_record L area r (forget_victim (log_now area r) k) (forget_kept r (log_now area r) k) (next_after r)

abbrev pub deleted_record : Layout → List ℕ → Record → Key → Record
deleted_record L area r k =
    pick (no_room L r (entry_size L 0)) (forgotten_record (new_layout r) area r k) (entry_record L r (log_now area r) (tombstone_entry r k))

-- The record after the last step of an operation that was started on this area and record.
unfoldable pub finished_record : Layout → List ℕ → Record → Operation → Record
finished_record L area r (write k value) = entry_record L r (log_now area r) (written_entry r k value)
finished_record L area r (delete k) = deleted_record L area r k
finished_record L area r (clean victims) = cleaned_record (new_layout r) area r victims

-- ---- format

-- Byte 0 of every slot below n becomes 0.
unfoldable pub cleared : ℕ → ℕ → List ℕ → List ℕ
cleared S zero area = area
cleared S (suc n) area = set (cleared S n area) (n * S) 0

-- Slot 0 then gets the first digest, which names slot 0 alone, and an end behind it. No other byte changes.
abbrev pub first_digest : Digest
first_digest = record { number = record { 0 = 1 }; map = 1; next = record { 0 = 1 } }

abbrev pub formatted : Layout → ℕ → ℕ → List ℕ → List ℕ
formatted L n S area = stored (cleared S n area) (stores_from 0 (encoded_digest L first_digest ++ 0 ∷ []))

-- The edition is told by its number (02, R-11); where that names none, nothing is stored.
unfoldable pub formatted_as : Option Layout → ℕ → ℕ → List ℕ → List ℕ
formatted_as none n S area = area
formatted_as (some L) n S area = formatted L n S area
