-- 01, "Refused calls": the causes of each call in 01's order, over the facts that its tests need: the definitions take these
-- from the log, the code from area and index. Recovery's causes stand in the file Recovery.
use Rattle.std.specs.Prelude.{ℕ, ◌+◌, ◌-◌, Bool, true, false, not, List, [], ◌∷◌, eqb, ltb, length}
use Rattle.std.proofs.Math.Option.{Option, none, some}
use Rattle.segment.specs.Choice.{both, either, is_none}
use Rattle.segment.specs.Layout.{Layout, layout_numbered, object_kind, entry_size, digest_size, version_limit, number_limit}
use Rattle.segment.specs.declared.Key.{Key}
use Rattle.slot_map.specs.Bit.{within}
use Rattle.record.specs.Range.{fits_lent}
use Rattle.record.specs.Switch.{new_layout}
use Rattle.record.specs.declared.Pending.{Pending}
use Rattle.record.specs.declared.Pending.TheVariants.{Idle, Append, NewHead, Clean, Forget}
use Rattle.record.specs.declared.Refusal.TheVariants.{WorkShort, BadRecord, Busy, NonePending, ValueLength, Absent, VersionsSpent, NumbersSpent, KeysFull, NoRoom, BadVictims, KeptTooLong, Geometry, OtherVersion, OutsideTables}
use Rattle.record.specs.declared.Record.{Record}
use Rattle.record.specs.Reach.{holds_table, all_tables}
use Rattle.record.specs.declared.Tables.{Tables}
use Rattle.record.specs.declared.Expected.{Expected}
use Rattle.record.specs.declared.Expected.TheVariants.{Any, Only}
use Rattle.model.specs.Log.{Placed, has_key, present}
use Rattle.model.specs.Causes.{Cause, when}
use Rattle.model.specs.Recovery.{geometry_bad}
use Rattle.model.specs.Operations.{Operation, write, delete, clean, kept, all_encoded, forget_kept, fits_with}
pub use Rattle.model.specs.Operations.{no_room}

-- The lengths of what a call is lent.
pub record Lengths : Type 0 where
  pub area : ℕ
  pub index : ℕ
  pub work : ℕ

-- What a start asks for besides its operation. It belongs to the call: plan, work bytes, book and recovery do not know it.
pub record Terms : Type 0 where
  pub tables : Tables
  pub expected : Expected

-- nothing besides: every table may be reached, and no version is expected
abbrev pub freely : Terms
freely = record { tables = all_tables; expected = Any }

-- these tables alone
abbrev pub reaching : Tables → Terms
reaching t = record { tables = t; expected = Any }

-- 4, as far as it needs no look at the log
abbrev pub record_bad : Layout → Record → Lengths → Bool
record_bad L r l = not (fits_lent L r l.area l.index)

-- 3
abbrev pub work_short : Record → Lengths → Bool
work_short r l = ltb l.work r.size

-- 5 and 6
unfoldable pub is_pending : Pending → Bool
is_pending Idle = false
is_pending (Append n k) = true
is_pending (NewHead i n k) = true
is_pending (Clean i v n k) = true
is_pending (Forget i v n k) = true

-- 7, for a value of n bytes
abbrev pub value_bad : Layout → ℕ → Bool
value_bad L n = is_none (object_kind L n)

-- 8
abbrev pub key_absent : List Placed → Key → Bool
key_absent log k = is_none (present log k)

-- the version of a key: that of the object that gives it its value, 0 where it is absent
unfoldable pub version_in : Option Placed → ℕ
version_in none = 0
version_in (some x) = x.entry.version

-- What a call knows of its key: whether a byte was met that the rules of the log forbid, whether the log has any entry of
-- the key, whether no object gives it a value, and its version.
pub record KeyFacts : Type 0 where
  pub forbidden : Bool
  pub in-log : Bool
  pub absent : Bool
  pub version : ℕ

-- by the log, whose entries have no such byte
abbrev pub key_facts : List Placed → Key → KeyFacts
key_facts log k =
    record { forbidden = false; in-log = has_key log k; absent = key_absent log k; version = version_in (present log k) }

-- 21 (02, R-1): the key's version is not the one that is expected
unfoldable pub expects_other : Expected → ℕ → Bool
expects_other Any v = false
expects_other (Only e) v = not (eqb e.0 v)

-- 22 (02, R-2): the caller may not reach the key's table
abbrev pub outside_tables : Tables → Key → Bool
outside_tables t k = not (holds_table t k.table)

-- 9, by the limit of the edition that new heads have (02, R-13)
abbrev pub versions_spent : Record → Bool
versions_spent r = eqb r.next.0 (version_limit (new_layout r))

-- 10
abbrev pub numbers_spent : Record → Bool
numbers_spent r = eqb r.digest.0 number_limit

-- 11
abbrev pub keys_full : Record → KeyFacts → Bool
keys_full r k = both (not k.in-log) (eqb r.keys (r.cells - 1))

-- 12 is `no_room`; 10 where a new head is needed, for an entry of n bytes
abbrev pub no_number : Layout → Record → ℕ → Bool
no_number L r n = both (not (fits_with L r n)) (numbers_spent r)

-- 13
abbrev pub victims_bad : Record → ℕ → Bool
victims_bad r victims = either (eqb victims 0) (not (within victims r.map))

-- 14, for n bytes kept, behind the digest of the new head
abbrev pub kept_too_long : Record → ℕ → Bool
kept_too_long r n = ltb r.size (digest_size (new_layout r) + n)

-- ---- the list of each call: these are the only places where the order of its causes stands

-- Format: 1, which an edition that is none brings too (02, R-11).
abbrev pub format_causes : ℕ → ℕ → ℕ → ℕ → List Cause
format_causes e n s area_length = when (either (geometry_bad n s area_length) (is_none (layout_numbered e))) Geometry ∷ []

-- Read: 4, 22, 8.
abbrev pub read_causes : Layout → Record → List Placed → Lengths → Tables → Key → List Cause
read_causes L r log l t k =
    when (record_bad L r l) BadRecord ∷ when (outside_tables t k) OutsideTables ∷ when (key_absent log k) Absent ∷ []

-- Write: 4, 22, 3, 5, 7, 21, 9, 11, 12, 10, for a value of n bytes under key j. A forbidden byte is met where the key is looked up,
-- which 21 is the first to need.
abbrev pub write_causes : Layout → Record → Lengths → Terms → Key → KeyFacts → ℕ → List Cause
write_causes L r l t j k n =
    when (record_bad L r l) BadRecord
    ∷ when (outside_tables t.tables j) OutsideTables
    ∷ when (work_short r l) WorkShort
    ∷ when (is_pending r.pending) Busy
    ∷ when (value_bad L n) ValueLength
    ∷ when k.forbidden BadRecord
    ∷ when (expects_other t.expected k.version) OtherVersion
    ∷ when (versions_spent r) VersionsSpent
    ∷ when (keys_full r k) KeysFull
    ∷ when (no_room L r (entry_size L n)) NoRoom
    ∷ when (no_number L r (entry_size L n)) NumbersSpent
    ∷ []

-- 12 of a delete (02, R-13): its tombstone finds no room, and the n bytes that the one victim keeps in the new head's edition do not fit
-- behind the digest.
abbrev pub forget_too_long : Layout → Record → ℕ → Bool
forget_too_long L r n = both (no_room L r (entry_size L 0)) (kept_too_long r n)

-- Delete: 4, 22, 3, 5, 8, 9, 12, 10. Here 8 is the first to need what is known of key j.
abbrev pub delete_causes : Layout → Record → Lengths → Terms → Key → KeyFacts → ℕ → List Cause
delete_causes L r l t j k n =
    when (record_bad L r l) BadRecord
    ∷ when (outside_tables t.tables j) OutsideTables
    ∷ when (work_short r l) WorkShort
    ∷ when (is_pending r.pending) Busy
    ∷ when k.forbidden BadRecord
    ∷ when k.absent Absent
    ∷ when (versions_spent r) VersionsSpent
    ∷ when (forget_too_long L r n) NoRoom
    ∷ when (no_number L r (entry_size L 0)) NumbersSpent
    ∷ []

-- Clean: 4, 3, 5, 13, 14, 10, for n bytes kept.
abbrev pub clean_causes : Layout → Record → Lengths → ℕ → ℕ → List Cause
clean_causes L r l n victims =
    when (record_bad L r l) BadRecord
    ∷ when (work_short r l) WorkShort
    ∷ when (is_pending r.pending) Busy
    ∷ when (victims_bad r victims) BadVictims
    ∷ when (kept_too_long r n) KeptTooLong
    ∷ when (numbers_spent r) NumbersSpent
    ∷ []

-- how many bytes a cleaning of the log keeps, in the new head's edition
abbrev pub kept_length : Layout → List Placed → ℕ → ℕ
kept_length L log victims = length (all_encoded L (kept victims log))

-- and how many a delete that cleans, the tombstone among them where one stands
abbrev pub forget_length : Layout → Record → List Placed → Key → ℕ
forget_length L r log k = length (all_encoded L (forget_kept r log k))

-- The causes of a start, with what the log says.
unfoldable pub start_causes : Layout → Record → List Placed → Lengths → Terms → Operation → List Cause
start_causes L r log l t (write k value) = write_causes L r l t k (key_facts log k) (length value)
start_causes L r log l t (delete k) = delete_causes L r l t k (key_facts log k) (forget_length (new_layout r) r log k)
start_causes L r log l t (clean victims) = clean_causes L r l (kept_length (new_layout r) log victims) victims

-- What is tested before any look at area and index, by the arguments, the record and the lengths alone: 4, and 22 by a call that
-- names a key.
abbrev pub reach_causes : Layout → Record → Lengths → Tables → Key → List Cause
reach_causes L r l t k = when (record_bad L r l) BadRecord ∷ when (outside_tables t k) OutsideTables ∷ []

unfoldable pub early_causes : Layout → Record → Lengths → Terms → Operation → List Cause
early_causes L r l t (write k value) = reach_causes L r l t.tables k
early_causes L r l t (delete k) = reach_causes L r l t.tables k
early_causes L r l t (clean victims) = when (record_bad L r l) BadRecord ∷ []

-- Step: 4, 3, 6.
abbrev pub step_causes : Layout → Record → Lengths → List Cause
step_causes L r l = when (record_bad L r l) BadRecord ∷ when (work_short r l) WorkShort ∷ when (not (is_pending r.pending)) NonePending ∷ []

-- Tell, which foretells a step's store: the step's causes. No index is lent, so of the lent lengths 4 looks at the area's alone; the index
-- counts as long as the record says.
abbrev pub tell_causes : Layout → Record → Lengths → List Cause
tell_causes L r l = step_causes L r (record { area = l.area; index = r.cells; work = l.work })
