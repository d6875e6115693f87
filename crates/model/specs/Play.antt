-- The definitions at work on an area of four slots of 256 bytes, with what each call gives as a list of numbers.
use Rattle.std.specs.Prelude.{ℕ, List, [], ◌∷◌, ◌++◌, take, replicate}
use Rattle.std.proofs.Math.Option.{Option, none, some}
use Rattle.word.specs.Number.{number_of, bytes_of}
use Rattle.segment.specs.Choice.{pick, both, either, is_none, or_zero}
use Rattle.segment.specs.Layout.{Layout, edition1, lookup, look_back, is_some, value_length, good_version, table, same_layout, layout_numbered}
use Rattle.segment.specs.Entry.{Entry, bytes_in, kind_for, value_for, of_version, of_length, entry_at}
use Rattle.segment.specs.Digest.{encoded_digest, layout_in}
use Rattle.segment.specs.declared.Key.{Key}
use Rattle.slot_map.specs.Bit.{bit}
use Rattle.slot_map.specs.Count.{used}
use Rattle.slot_map.specs.Next.{slot_after, free_from, next_free}
use Rattle.record.specs.Answers.{Said, recover_said, read_said, start_said, step_said, stores_left}
use Rattle.record.specs.Range.{between, map_good, left_good, counts_good, in_range, lengths_own, fits_lent}
use Rattle.record.specs.Refusals.{number_of_refusal}
use Rattle.record.specs.Answered.{Recovery}
use Rattle.record.specs.declared.Refusal.{Refusal}
use Rattle.record.specs.declared.Record.{Record}
use Rattle.record.specs.declared.Tables.{Tables}
use Rattle.record.specs.Reach.{holds_table, all_tables}
use Rattle.model.specs.Log.{Placed, item_first, scan_from, items_of, end_of, is_damaged, digest_in, newer, head_of, placed_in, log_of, same_keys, same_key, later_of, latest, object_only, present, is_version, has_key, keys_of, has_version, version_shared, highest}
use Rattle.model.specs.Counts.{tally, object_bytes, without_live, without_victims}
use Rattle.model.specs.Causes.{Cause, first_cause}
use Rattle.model.specs.Recovery.{lists, lists_below, head_else, has_number, sharing, names_no_digest, log_damaged, recover_causes, recovery_for, recovery, record_from, later_edition, other_edition, image_layout}
use Rattle.model.specs.Operations.{Operation, log_now, object_outside, kept_of, kept, all_encoded, replaced, replaced_by, slot_of, laid, stores_from, plan_of, plan_for, stores_for, stored, told_version, count_new, placed_from, finished_record, cleared, formatted, formatted_as}
use Rattle.model.specs.Refused.{Lengths, Terms, freely, version_in, expects_other, is_pending, read_causes, start_causes}
use Rattle.model.specs.Promises.{present_answer, read_answer, part_of, value_part, value_answer, Begun, begun, stepped}
use Rattle.model.specs.Table.{same, failing}

-- What a computed row looks through: a proof that opens this opens them all.
unfoldable pub opened : Unit {0}
unfolding number_of bytes_of pick both either is_none or_zero table same_layout layout_numbered layout_in lookup look_back is_some value_length good_version bytes_in kind_for value_for of_version of_length entry_at
    holds_table bit used slot_after free_from next_free between map_good left_good counts_good in_range lengths_own fits_lent
    item_first scan_from items_of end_of is_damaged digest_in newer head_of placed_in log_of same_keys same_key later_of latest object_only present is_version has_key keys_of has_version version_shared highest
    tally object_bytes without_live without_victims
    first_cause lists lists_below head_else has_number sharing names_no_digest later_edition other_edition log_damaged recovery_for recovery
    object_outside kept_of all_encoded replaced replaced_by slot_of laid stores_from plan_of stored told_version count_new placed_from finished_record cleared formatted_as
    version_in expects_other is_pending start_causes present_answer read_answer value_part value_answer begun stepped same failing
opened = tt

-- ---- areas

-- an area over bytes b, formatted
abbrev pub fresh_in : Layout → ℕ → List ℕ
fresh_in L b = formatted L 4 256 (replicate 1024 b)

abbrev pub fresh_over : ℕ → List ℕ
fresh_over b = fresh_in edition1 b

abbrev pub keyed : ℕ → ℕ → Key
keyed t k = record { table = t; key = k }

abbrev pub object : Key → ℕ → List ℕ → Entry
object k v value = record { table = k.table; key = k.key; version = v; value = some value }

abbrev pub tombstone : Key → ℕ → Entry
tombstone k v = record { table = k.table; key = k.key; version = v; value = none }

-- a slot that begins with these bytes and, where they leave room, a kind 0; the rest of it is b
abbrev pub slot_with : ℕ → List ℕ → List ℕ
slot_with b bytes = take 256 (bytes ++ 0 ∷ replicate 256 b)

-- a digest and entries behind it, of an edition, and of the first
abbrev pub segment_in : Layout → (number map next : ℕ) → List Entry → List ℕ
segment_in L number map next es =
    encoded_digest L (record { number = record { 0 = number }; map = map; next = record { 0 = next } }) ++ all_encoded L es

abbrev pub segment_with : (number map next : ℕ) → List Entry → List ℕ
segment_with = segment_in edition1

-- ---- calls, by the edition that the area's head or the record has

abbrev pub cause_number : Option Refusal → ℕ
cause_number none = 0
cause_number (some c) = number_of_refusal c

-- the number of the first cause that holds, 0 where none does
abbrev pub first : List Cause → ℕ
first cs = cause_number (first_cause cs)

abbrev pub said : Said → List ℕ
said a = a.refused ∷ a.stores ∷ a.version ∷ a.kind ∷ []

-- a record from N to the number of keys, and the stores that its pending operation has left
abbrev pub numbers : Record → List ℕ
numbers r =
    r.slots ∷ r.size ∷ r.cells ∷ r.head ∷ r.end ∷ r.digest.0 ∷ r.map ∷ r.next.0 ∷ r.keys ∷ stores_left r.pending ∷ []

-- what recovery answers, its number and the record
abbrev pub recovery_numbers : Recovery → List ℕ
recovery_numbers r = (recover_said r.answer).refused ∷ numbers r.rec

-- with 16 cells and the slots in order
abbrev pub recovers : List ℕ → List ℕ
recovers area = recovery_numbers (recovery (image_layout 4 256 area) 4 256 16 (0 ∷ 1 ∷ 2 ∷ 3 ∷ []) area)

-- the number of its first cause; with 16 cells and the slots in some order
abbrev pub refuses_with : (cells : ℕ) → (order area : List ℕ) → ℕ
refuses_with cells order area = first (recover_causes (image_layout 4 256 area) 4 256 cells order area)

abbrev pub refuses : List ℕ → ℕ
refuses area = refuses_with 16 (2 ∷ 0 ∷ 3 ∷ 1 ∷ []) area

-- the record that this recovery gives, and the log under it
abbrev pub record_now : List ℕ → Record
record_now area = record_from (image_layout 4 256 area) 4 256 16 area

abbrev pub log : List ℕ → List Placed
log area = log_now area (record_now area)

-- what the lent memory is as long as, with a work buffer of S bytes
abbrev pub lent_with : ℕ → Lengths
lent_with work = record { area = 1024; index = 16; work = work }

-- the first cause of a start with this record, on terms and on none
abbrev pub cause_on : Terms → Record → List ℕ → Operation → Option Refusal
cause_on t r area o = first_cause (start_causes r.edition r (log_now area r) (lent_with 256) t o)

abbrev pub start_cause : Record → List ℕ → Operation → Option Refusal
start_cause = cause_on freely

-- its number with the recovered record
abbrev pub start_number : List ℕ → Operation → ℕ
start_number area o = cause_number (start_cause (record_now area) area o)

-- on terms
abbrev pub number_on : Terms → List ℕ → Operation → ℕ
number_on t area o = cause_number (cause_on t (record_now area) area o)

-- a start with the recovered record and a work buffer of bytes 170
abbrev pub begins : List ℕ → Operation → Begun
begins area o = begun (record_now area).edition (record_now area) (log area) o (replicate 256 170) (start_cause (record_now area) area o)

-- what it answers, and its record
abbrev pub starts : List ℕ → Operation → List ℕ
starts area o = said (start_said (begins area o).start.answer) ++ numbers (begins area o).start.rec

-- what the step answers after which k stores are left, and its record; and what the last one does
abbrev pub steps_to : ℕ → List ℕ → Operation → List ℕ
steps_to k area o =
    said (step_said (stepped (record_now area).edition area (record_now area) o k).answer) ++ numbers (stepped (record_now area).edition area (record_now area) o k).rec

abbrev pub ends : List ℕ → Operation → List ℕ
ends area o = steps_to 0 area o

abbrev pub plan : List ℕ → Operation → List (ℕ × ℕ)
plan area o = plan_for (record_now area).edition (record_now area) (log area) o

abbrev pub stores : List ℕ → Operation → ℕ
stores area o = stores_for (record_now area).edition (record_now area) (log area) o

-- the area after the first k stores of an operation
abbrev pub cut_after : ℕ → List ℕ → Operation → List ℕ
cut_after k area o = stored area (take k (plan area o))

-- after all of them, if the start is accepted
abbrev pub played_unless : Option Refusal → List ℕ → Operation → List ℕ
played_unless none area o = stored area (plan area o)
played_unless (some c) area o = area

abbrev pub played : List ℕ → Operation → List ℕ
played area o = played_unless (start_cause (record_now area) area o) area o

abbrev pub played_all : List ℕ → List Operation → List ℕ
played_all area [] = area
played_all area (o ∷ os) = played_all (played area o) os

-- what reading a key within these tables answers, and the value; and with every table in reach
abbrev pub read_cause : Tables → Record → List ℕ → Key → Option Refusal
read_cause t r area k = first_cause (read_causes r.edition r (log_now area r) (lent_with 0) t k)

abbrev pub reads_within : Tables → List ℕ → Key → List ℕ
reads_within t area k =
    said (read_said (read_answer (read_cause t (record_now area) area k) (present (log area) k))) ++
    part_of area (value_answer 256 (read_cause t (record_now area) area k) (present (log area) k))

abbrev pub reads : List ℕ → Key → List ℕ
reads = reads_within all_tables

-- the bytes that a cleaning keeps
abbrev pub keeps : List ℕ → ℕ → List ℕ
keeps area victims = all_encoded (record_now area).edition (kept victims (log area))
