-- 01, "Operations, store by store": the record and the index after a step's store, as total functions of the area after it.
use Rattle.std.specs.Prelude.{ℕ, zero, suc, ◌+◌, ◌*◌, ◌-◌, List, [], ◌∷◌, ltb, length, take, Ok, Err, Some, None}
use Rattle.segment.specs.Choice.{pick}
use Rattle.segment.specs.Layout.{Layout, digest_size}
use Rattle.segment.specs.Entry.{Found, entry, end, damage, entry_at, key_of}
use Rattle.segment.specs.declared.Key.{Key}
use Rattle.slot_map.specs.Bit.{with_bit, less}
use Rattle.record.specs.Answers.{with_pending, stores_left}
use Rattle.record.specs.Committed.{committed}
use Rattle.record.specs.Switch.{new_layout}
use Rattle.record.specs.declared.Commit.{Commit}
use Rattle.record.specs.declared.Pending.{Pending}
use Rattle.record.specs.declared.Pending.TheVariants.{Idle, Append, NewHead, Clean, Forget}
use Rattle.record.specs.declared.Refusal.{Refusal}
use Rattle.record.specs.Answered.{Stepped, StepAnswer}
use Rattle.record.specs.declared.Progress.{Progress}
use Rattle.record.specs.declared.Record.{Record}
use Rattle.model.specs.Log.{segment_of}
use Rattle.model.specs.Operations.{next_after, append_commit, head_commit}
use Rattle.model.specs.Counts.{more_bytes, object_size}
use Rattle.counting.specs.Counting.{lost_at, renewed_at}
use Rattle.index.specs.Insert.{inserted}
use Rattle.index.specs.Build.{Rebuilt, built, Built}
use Rattle.index.specs.declared.Inserted.{Inserted}

-- What a step leaves besides the area: its answer with the record, and the cells of the index.
pub record After : Type 0 where
  pub stepped : Stepped
  pub cells : List ℕ

abbrev pub refused_step : Record → Refusal → Stepped
refused_step r c = record { answer = Err c; rec = r }

-- a log or an index that the rules forbid, which only a record that is not genuine meets
abbrev pub unfit : Record → List ℕ → After
unfit r cells = record { stepped = refused_step r Refusal.BadRecord; cells = cells }

-- ---- the last step of a write or delete

-- how many keys there are after an insertion
unfoldable pub keys_after : Inserted → ℕ → Built
keys_after Inserted.New n = Some (n + 1)
keys_after (Inserted.Newer old) n = Some n
keys_after Inserted.Older n = Some n
keys_after Inserted.Full n = None

-- The version is told, and the record gets its number of keys, which stays below the number of cells, and its present bytes.
unfoldable pub answered_with : Record → Commit → ℕ → List ℕ → Built → Stepped
answered_with r done version counts (Some n) =
    pick (ltb n r.cells) (record { answer = Ok (Progress.Done (record { 0 = version })); rec = committed r done n counts })
    (refused_step r Refusal.BadRecord)
answered_with r done version counts None = refused_step r Refusal.BadRecord

-- 02, R-5: where an insertion replaces an older entry of the key, the object that stands there counts no longer,
unfoldable pub lost_by : ℕ → List ℕ → Inserted → List ℕ → List ℕ
lost_by S area Inserted.New c = c
lost_by S area (Inserted.Newer old) c = lost_at S area old c
lost_by S area Inserted.Older c = c
lost_by S area Inserted.Full c = c

-- and n bytes more count in a slot.
abbrev pub counts_after : Record → List ℕ → Inserted → ℕ → ℕ → List ℕ
counts_after r area a slot n = more_bytes slot n (lost_by r.size area a r.counts)

-- The entry of a key at a place of a slot goes into the index; n of its bytes count.
abbrev pub entry_in : Record → Commit → List ℕ → List ℕ → ℕ → ℕ → ℕ → Key → After
entry_in r done area cells slot n place k =
    let i = inserted area cells place k r.next.0 in
    record {
      stepped = answered_with r done r.next.0 (counts_after r area i.answer slot n) (keys_after i.answer r.keys);
      cells = i.cells;
    }

-- what the reader finds where the entry came to stand
unfoldable pub found_in : Layout → Record → Commit → List ℕ → List ℕ → ℕ → ℕ → Found → After
found_in L r done area cells slot place (entry e) = entry_in r done area cells slot (object_size L e) place (key_of e)
found_in L r done area cells slot place end = unfit r cells
found_in L r done area cells slot place damage = unfit r cells

-- The entry at an offset of a slot goes into the index; the slot's segment is read.
unfoldable pub finish_entry : Layout → Record → Commit → List ℕ → List ℕ → ℕ → ℕ → After
finish_entry L r done area cells slot offset =
    found_in L r done area cells slot (slot * r.size + offset) (entry_at L (segment_of area r.size slot) offset)

unfoldable pub finish_append : Layout → Record → List ℕ → List ℕ → ℕ → After
finish_append L r area cells n = finish_entry L r (append_commit r n) area cells r.head r.end

-- A new head has the edition that the record has for new heads, here and in what takes slots out of the log.
unfoldable pub finish_head : Record → List ℕ → List ℕ → ℕ → ℕ → After
finish_head r area cells slot n =
    finish_entry (new_layout r) r (head_commit (new_layout r) r slot n (with_bit r.map slot) (next_after r)) area cells slot
    (digest_size (new_layout r))

-- ---- the last step of a cleaning, and of a delete that cleans

-- the slots below f more than a, from a on
unfoldable pub up_from : ℕ → ℕ → List ℕ
up_from a zero = []
up_from a (suc f) = a ∷ up_from (a + 1) f

-- the slots of a store, ascending
abbrev pub ascending : ℕ → List ℕ
ascending n = take n (up_from 0 32)

-- The index is rebuilt under the new map.
abbrev pub rebuilt : Record → List ℕ → List ℕ → ℕ → Rebuilt
rebuilt r area cells map = built area r.size map (ascending r.slots) (length cells)

abbrev pub clean_map : Record → ℕ → ℕ → ℕ
clean_map r slot victims = with_bit (less r.map victims) slot

-- The victims have no present bytes, and the new head those of what it holds.
abbrev pub finish_rebuilt : Record → List ℕ → List ℕ → ℕ → ℕ → Commit → ℕ → After
finish_rebuilt r area cells slot victims done version =
    record {
      stepped =
          answered_with r done version (renewed_at r.size area slot victims r.counts) (rebuilt r area cells done.map).answer;
      cells = (rebuilt r area cells done.map).cells;
    }

-- A cleaning has no version of its own; a delete tells its own, and the next version goes up.
unfoldable pub finish_clean : Record → List ℕ → List ℕ → ℕ → ℕ → ℕ → After
finish_clean r area cells slot victims n =
    finish_rebuilt r area cells slot victims (head_commit (new_layout r) r slot n (clean_map r slot victims) r.next) 0

unfoldable pub finish_forget : Record → List ℕ → List ℕ → ℕ → ℕ → ℕ → After
finish_forget r area cells slot victims n =
    finish_rebuilt r area cells slot victims (head_commit (new_layout r) r slot n (clean_map r slot victims) (next_after r)) r.next.0

-- ---- what comes after the store of a step

-- one store less
unfoldable pub one_less : Pending → Pending
one_less Idle = Idle
one_less (Append n k) = Append n (k - 1)
one_less (NewHead i n k) = NewHead i n (k - 1)
one_less (Clean i v n k) = Clean i v n (k - 1)
one_less (Forget i v n k) = Forget i v n (k - 1)

unfoldable pub finish_with : Layout → Record → List ℕ → List ℕ → Pending → After
finish_with L r area cells Idle = unfit r cells
finish_with L r area cells (Append n k) = finish_append L r area cells n
finish_with L r area cells (NewHead i n k) = finish_head r area cells i n
finish_with L r area cells (Clean i v n k) = finish_clean r area cells i v n
finish_with L r area cells (Forget i v n k) = finish_forget r area cells i v n

-- With stores left, they are one less and the index stays; else the operation is finished.
unfoldable pub advanced : Layout → Record → List ℕ → List ℕ → After
advanced L r area cells =
    pick (ltb 1 (stores_left r.pending))
    (record {
      stepped = record { answer = Ok (Progress.Left (stores_left r.pending - 1)); rec = with_pending r (one_less r.pending) };
      cells = cells;
    })
    (finish_with L r area cells r.pending)
