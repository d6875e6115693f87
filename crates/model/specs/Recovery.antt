-- 01, "The log and its map" and "Refused calls": what recovery gives for an image, and the causes 1, 2 and 15 to 20, with 24 and 25
-- of 02, R-8, and 28 of R-11 and R-13. The layout in these definitions is that of the store, which is its head's.
use Rattle.std.specs.Prelude.{ℕ, zero, suc, ◌+◌, ◌*◌, ◌-◌, Bool, true, false, not, List, [], ◌∷◌, ◌++◌, eqb, ltb, length, Ok, Err}
use Rattle.std.proofs.Math.Option.{Option, none, some}
use Rattle.segment.specs.Choice.{pick, both, either, is_none}
use Rattle.segment.specs.Layout.{Layout, edition1, edition2, same_layout}
use Rattle.segment.specs.declared.Digest.{Digest}
use Rattle.slot_map.specs.Bit.{named}
use Rattle.record.specs.Answers.{blank}
use Rattle.record.specs.Range.{slots_good, size_good, cells_good, map_good}
use Rattle.record.specs.declared.Refusal.{Refusal}
use Rattle.record.specs.declared.Refusal.TheVariants.{Geometry, Cells, BadOrder, NoDigest, BadDigest, BadMap, MapNoDigest, MixedEditions, DamagedLog, SharedVersion, TooManyKeys}
use Rattle.record.specs.declared.Pending.TheVariants.{Idle}
use Rattle.record.specs.declared.Record.{Record}
use Rattle.record.specs.Answered.{Recovery, RecoverAnswer}
use Rattle.model.specs.Log.{View, Head, Placed, views_of, head_of, log_of, end_of, is_damaged, keys_of, version_shared, next_version}
use Rattle.model.specs.Counts.{counts_of}
use Rattle.model.specs.Causes.{Cause, when, first_cause}

-- 1: N, S or the area's length wrong
abbrev pub geometry_bad : ℕ → ℕ → ℕ → Bool
geometry_bad n s area_length = not (both (both (slots_good n) (size_good s)) (eqb area_length (n * s)))

-- 15: the order list is not an order of the N slots
unfoldable pub lists : List ℕ → ℕ → Bool
lists [] i = false
lists (x ∷ xs) i = either (eqb x i) (lists xs i)

unfoldable pub lists_below : List ℕ → ℕ → Bool
lists_below xs zero = true
lists_below xs (suc n) = both (lists_below xs n) (lists xs n)

abbrev pub order_bad : ℕ → List ℕ → Bool
order_bad n order = not (both (eqb (length order) n) (lists_below order n))

-- 16: no byte 0 is the digest's kind, so that there is no head. The head, or a slot of zeros where there is none
unfoldable pub head_else : Option Head → Head
head_else none = record { slot = 0; digest = record { number = record { 0 = 0 }; map = 0; next = record { 0 = 0 } } }
head_else (some h) = h

-- 17: how many of the slots below n have a digest of that number
unfoldable pub has_number : Option Digest → ℕ → ℕ
has_number none k = 0
has_number (some d) k = pick (eqb d.number.0 k) 1 0

unfoldable pub sharing : (ℕ → View) → ℕ → ℕ → ℕ
sharing v k zero = 0
sharing v k (suc n) = sharing v k n + has_number (v n).digest k

-- the highest number is 0, or more than one slot has it
abbrev pub number_bad : (ℕ → View) → ℕ → Head → Bool
number_bad v n h = either (eqb h.digest.number.0 0) (ltb 1 (sharing v h.digest.number.0 n))

-- next version 0
abbrev pub next_bad : Head → Bool
next_bad h = eqb h.digest.next.0 0

-- 17 speaks of the two counters that the digest holds, and of nothing that its map says.
abbrev pub digest_bad : (ℕ → View) → ℕ → Head → Bool
digest_bad v n h = either (number_bad v n h) (next_bad h)

-- 24 (02, R-8): a map with a slot that is not there, without the head, or of all slots
abbrev pub map_bad : ℕ → Head → Bool
map_bad n h = not (map_good n h.slot h.digest.map)

-- 25 (02, R-8): a slot of the map does not begin with a digest
unfoldable pub names_no_digest : (ℕ → View) → (ℕ → Bool) → ℕ → Bool
names_no_digest v p zero = false
names_no_digest v p (suc n) = either (names_no_digest v p n) (both (p n) (is_none (v n).digest))

-- an edition comes later than another
abbrev pub later : Layout → Layout → Bool
later K L = both (same_layout K edition2) (same_layout L edition1)

-- 28 (02, R-13): a slot of the log is of a later edition than the head, which is of layout L. Slots of the earlier one may stand under a
-- head of the second.
unfoldable pub later_edition : Layout → (ℕ → View) → (ℕ → Bool) → ℕ → Bool
later_edition L v p zero = false
later_edition L v p (suc n) = either (later_edition L v p n) (both (p n) (later (v n).layout L))

-- 28 as it was before (R-11), which the conversion of images keeps: a slot of the log is not of the head's edition.
unfoldable pub other_edition : Layout → (ℕ → View) → (ℕ → Bool) → ℕ → Bool
other_edition L v p zero = false
other_edition L v p (suc n) = either (other_edition L v p n) (both (p n) (not (same_layout (v n).layout L)))

-- the edition of the head's slot
abbrev pub image_layout : ℕ → ℕ → List ℕ → Layout
image_layout n s area = (views_of area s (head_else (head_of (views_of area s) n)).slot).layout

-- 18: damage in a slot of the log
unfoldable pub log_damaged : (ℕ → View) → (ℕ → Bool) → ℕ → Bool
log_damaged v p zero = false
log_damaged v p (suc n) = either (log_damaged v p n) (both (p n) (is_damaged (v n).scan))

-- the slots that a head's map names, and the log of the head
abbrev pub log_slots : Head → ℕ → Bool
log_slots h i = named h.digest.map i

abbrev pub log_under : (ℕ → View) → ℕ → Head → List Placed
log_under v n h = log_of v (log_slots h) n

-- 20: over M - 1 keys
abbrev pub keys_bad : ℕ → List Placed → Bool
keys_bad m log = ltb (m - 1) (length (keys_of log))

-- The record that recovery gives for slots with these views under this head.
abbrev pub record_under : Layout → (ℕ → View) → ℕ → ℕ → ℕ → Head → Record
record_under L v n s m h =
    record {
      slots = n;
      size = s;
      cells = m;
      edition = L;
      switched = false;
      head = h.slot;
      end = end_of (v h.slot).scan;
      digest = h.digest.number;
      map = h.digest.map;
      next = record { 0 = next_version h.digest (log_under v n h) };
      keys = length (keys_of (log_under v n h));
      counts = counts_of (log_under v n h);
      pending = Idle;
    }

-- The head's digest: 17, 24, 25 (02, R-8).
abbrev pub digest_causes : (ℕ → View) → ℕ → Head → List Cause
digest_causes v n h =
    when (digest_bad v n h) BadDigest ∷ when (map_bad n h) BadMap ∷ when (names_no_digest v (log_slots h) n) MapNoDigest ∷ []

-- 16, 17, 24, 25, 28, 18 and 19, which look at the image alone, by whether the editions of the log's slots bring 28
abbrev pub image_causes_by : Bool → (ℕ → View) → ℕ → Option Head → List Cause
image_causes_by mixed v n h =
    when (is_none h) NoDigest
    ∷ (digest_causes v n (head_else h) ++
    (when mixed MixedEditions
    ∷ when (log_damaged v (log_slots (head_else h)) n) DamagedLog
    ∷ when (version_shared (log_under v n (head_else h))) SharedVersion ∷ []))

abbrev pub image_causes : Layout → (ℕ → View) → ℕ → Option Head → List Cause
image_causes L v n h = image_causes_by (later_edition L v (log_slots (head_else h)) n) v n h

abbrev pub key_causes : (ℕ → View) → ℕ → ℕ → Option Head → List Cause
key_causes v n m h = when (keys_bad m (log_under v n (head_else h))) TooManyKeys ∷ []

-- 1 and 2: geometry and index
abbrev pub lent_causes : ℕ → ℕ → ℕ → ℕ → List Cause
lent_causes n s m area_length = when (geometry_bad n s area_length) Geometry ∷ when (not (cells_good m)) Cells ∷ []

-- Recovery: 1, 2, 15, 16, 17, 24, 25, 28, 18, 19, 20.
abbrev pub recover_causes : Layout → ℕ → ℕ → ℕ → List ℕ → List ℕ → List Cause
recover_causes L n s m order area =
    lent_causes n s m (length area) ++ (when (order_bad n order) BadOrder ∷ []) ++
    image_causes L (views_of area s) n (head_of (views_of area s) n) ++ key_causes (views_of area s) n m (head_of (views_of area s) n)

-- The same without an order list.
abbrev pub area_causes : Layout → ℕ → ℕ → ℕ → List ℕ → List Cause
area_causes L n s m area =
    lent_causes n s m (length area) ++ image_causes L (views_of area s) n (head_of (views_of area s) n) ++
    key_causes (views_of area s) n m (head_of (views_of area s) n)

-- The record that recovery of an area gives, where it is accepted; the order of the slots is no part of it.
unfoldable pub if_none : Option Refusal → Record → Option Record
if_none none r = some r
if_none (some c) r = none

abbrev pub record_from : Layout → ℕ → ℕ → ℕ → List ℕ → Record
record_from L n s m area = record_under L (views_of area s) n s m (head_else (head_of (views_of area s) n))

-- L is the edition of its head.
unfoldable pub recovered : Layout → ℕ → ℕ → ℕ → List ℕ → Option Record
recovered L n s m area =
    pick (same_layout (image_layout n s area) L) (if_none (first_cause (area_causes L n s m area)) (record_from L n s m area)) none

-- What the call answers: the record, or the first cause beside the blank record.
unfoldable pub recovery_for : Option Refusal → Record → Recovery
recovery_for none r = record { answer = (Ok tt); rec = r }
recovery_for (some c) r = record { answer = Err c; rec = blank }

unfoldable pub recovery : Layout → ℕ → ℕ → ℕ → List ℕ → List ℕ → Recovery
recovery L n s m order area = recovery_for (first_cause (recover_causes L n s m order area)) (record_from L n s m area)
