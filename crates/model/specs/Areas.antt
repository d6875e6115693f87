-- Areas of four slots of 256 bytes, written out slot by slot, and records, on which several tables of rows work.
use Rattle.std.specs.Prelude.{ℕ, zero, suc, false, List, [], ◌∷◌, ◌++◌, replicate}
use Rattle.segment.specs.Entry.{Entry}
use Rattle.segment.specs.Layout.{edition1}
use Rattle.segment.specs.declared.Key.{Key}
use Rattle.record.specs.declared.Pending.{Pending}
use Rattle.record.specs.declared.Pending.TheVariants.{Idle}
use Rattle.record.specs.declared.Record.{Record}
use Rattle.model.specs.Play.{keyed, object, tombstone, slot_with, segment_with}

-- ---- entries

abbrev pub a : Key
a = keyed 1 1

abbrev pub b : Key
b = keyed 1 2

abbrev pub c : Key
c = keyed 1 3

abbrev pub d : Key
d = keyed 1 4

abbrev pub e : Key
e = keyed 1 5

-- an object of 8 bytes, one of 56 and one of 120
abbrev pub small : Key → ℕ → Entry
small k v = object k v (replicate 8 v)

abbrev pub large : Key → ℕ → Entry
large k v = object k v (replicate 56 v)

abbrev pub long : Key → ℕ → Entry
long k v = object k v (replicate 120 v)

-- tombstones of n keys of table 1, at the versions 1 to n
abbrev pub tombstones : ℕ → List Entry
tombstones zero = []
tombstones (suc n) = tombstones n ++ tombstone (keyed 1 (suc n)) (suc n) ∷ []

-- the limit of versions and of digest numbers
abbrev pub limit : ℕ
limit = 4294967295

-- ---- slots

-- a slot with a digest and entries, and 255 behind them; one with a digest whose map and next version are nonsense; one with none
abbrev pub seg : (number map next : ℕ) → List Entry → List ℕ
seg number map next es = slot_with 255 (segment_with number map next es)

abbrev pub bare : ℕ → List ℕ
bare number = seg number 0 0 []

abbrev pub vacant : List ℕ
vacant = slot_with 255 []

-- a head in slot 0 with damage behind its digest
abbrev pub damaged_head : (number map next : ℕ) → List ℕ
damaged_head number map next = slot_with 255 (segment_with number map next [] ++ 6 ∷ [])

-- ---- areas

-- 16 keys; the last entry has this version
abbrev pub sixteen_keys : ℕ → List ℕ
sixteen_keys v = seg 1 1 1 (tombstones 15 ++ tombstone (keyed 2 1) v ∷ []) ++ vacant ++ vacant ++ vacant

-- 15 keys in the head, which ends at 245, so that a tombstone fits it and no object does; slots 1 and 2 have digests
abbrev pub crowded : (number map next : ℕ) → List ℕ
crowded number map next = seg number map next (tombstones 15 ++ large a 16 ∷ []) ++ bare 1 ++ bare 2 ++ vacant

-- of key h n of R-4's full store one object stands in the log, and in the head
abbrev pub h : ℕ → Key
h n = keyed 2 n

abbrev head_entries : List Entry
head_entries = large (h 1) 10 ∷ large (h 2) 11 ∷ large (h 3) 12 ∷ small (h 4) 13 ∷ small (h 5) 14 ∷ []

-- One slot is free, and no tombstone fits the head, slot 2, which ends at 252. Of a objects stand in slot 0 and, twice, in slot 1; of b
-- one in slot 1; e has an older tombstone in slot 0.
abbrev pub full : List ℕ
full =
    seg 1 1 1 (small a 1 ∷ small c 2 ∷ tombstone e 3 ∷ []) ++
    seg 2 3 1 (small b 4 ∷ small a 5 ∷ tombstone c 6 ∷ small a 7 ∷ large d 8 ∷ small e 9 ∷ []) ++ seg 3 7 1 head_entries ++ vacant

-- ---- records

-- N, S, M, end, digest number, map, next version, keys; the head is slot 0
abbrev pub record_of : (n s m end number map next keys : ℕ) → Pending → Record
record_of n s m end number map next keys p =
    record {
      slots = n;
      size = s;
      cells = m;
      edition = edition1;
      switched = false;
      head = 0;
      end = end;
      digest = record { 0 = number };
      map = map;
      next = record { 0 = next };
      keys = keys;
      counts = replicate 32 0;
      pending = p;
    }

abbrev pub idle : Record
idle = record_of 4 256 16 13 1 1 1 0 Idle

abbrev pub busy : Pending → Record
busy p = record_of 4 256 16 13 1 1 1 0 p
