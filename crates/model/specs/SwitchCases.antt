-- Cases of 02, R-13: a store that is switched, and logs of both editions. Rows are numbered as in RequestCases.
use Rattle.std.specs.Prelude.{ℕ, zero, suc, ◌≡◌, refl, List, [], ◌∷◌, ◌++◌, take, drop, replicate}
use Rattle.segment.specs.Choice.{pick}
use Rattle.segment.specs.Layout.{edition2, number_of_layout}
use Rattle.segment.specs.Entry.{Entry}
use Rattle.segment.specs.declared.Key.{Key}
use Rattle.record.specs.Switch.{switched_on}
use Rattle.record.specs.declared.Pending.TheVariants.{Append}
use Rattle.record.specs.declared.Record.{Record}
use Rattle.model.specs.Operations.{Operation, write, delete, clean, plan_for, stored, finished_record}
use Rattle.model.specs.Play.{first, cause_number, keyed, object, slot_with, segment_in, recovers, record_now, start_cause, start_number, log, reads}
use Rattle.model.specs.Conversion.{convert_causes}
use Rattle.model.specs.Switching.{switch_causes}
use Rattle.model.specs.Expected.{gives, shows}
use Rattle.model.specs.Areas.{a, b, small, large, long, seg, bare, vacant, busy}
use Rattle.model.specs.Table.{Row, row}

-- a slot of edition 2 with a digest and entries, and 255 behind them
abbrev wide : (number map next : ℕ) → List Entry → List ℕ
wide number map next es = slot_with 255 (segment_in edition2 number map next es)

-- the recovered record, switched
abbrev switched : List ℕ → Record
switched area = switched_on (record_now area)

-- the number of a start's first cause with it, and the area once the operation is done
abbrev number : List ℕ → Operation → ℕ
number area o = cause_number (start_cause (switched area) area o)

abbrev done : List ℕ → Operation → List ℕ
done area o = stored area (plan_for (switched area).edition (switched area) (log area) o)

-- edition and switch of a record, as numbers
abbrev editions : Record → List ℕ
editions r = number_of_layout r.edition ∷ pick r.switched 1 0 ∷ []

-- the record after the last step
abbrev after : List ℕ → Operation → Record
after area o = finished_record (switched area).edition area (switched area) o

-- One object under a head of the first edition; the same beside a head of the second.
abbrev plain : List ℕ
plain = seg 1 1 1 (small a 1 ∷ []) ++ vacant ++ vacant ++ vacant

abbrev mixed : List ℕ
mixed = seg 1 1 1 (small a 1 ∷ []) ++ wide 2 3 2 (small b 2 ∷ []) ++ vacant ++ vacant

-- objects of 8 bytes of n keys of table 3, at the versions 1 to n
abbrev smalls : ℕ → List Entry
smalls zero = []
smalls (suc n) = smalls n ++ small (keyed 3 (suc n)) (suc n) ∷ []

abbrev third : ℕ → Key
third n = keyed 3 n

-- One slot is free, no tombstone fits the head, slot 2, which ends at 246, and slot 0 holds twelve objects, which take 241 bytes with their
-- digest, and 293 in edition 2.
abbrev jammed : ℕ → List ℕ
jammed digest =
    seg 1 1 1 (smalls 12) ++ seg 2 3 1 [] ++
    seg digest 7 1 (long (keyed 4 1) 13 ∷ large (keyed 4 2) 14 ∷ object (keyed 4 3) 15 (replicate 24 1) ∷ []) ++ vacant

-- the highest next version of edition 1
abbrev spent : ℕ
spent = 4294967295

abbrev pub rows : List Row
rows =
    -- both editions under a head of the second: each object has the kind of its own slot
    row 1301 (recovers mixed) (gives (record { head = 1; end = 40; digest = 2; map = 3; next = 3; keys = 2; left = 0 }))
    ∷ row 1301 (reads mixed a) (shows 1 1 (replicate 8 1))
    ∷ row 1301 (reads mixed b) (shows 2 9 (replicate 8 2))
    -- the conversion of images refuses both, under a head of either
    ∷ row 1301 (first (convert_causes 4 256 mixed 1024) ∷ first (convert_causes 4 256 (wide 1 1 1 [] ++ seg 2 3 1 [] ++ vacant ++ vacant) 1024) ∷ []) (28 ∷ 28 ∷ [])
    -- the switch: 4 by range alone, then 5
    ∷ row 1302 (first (switch_causes (busy (Append 11 12)).edition (busy (Append 11 12))) ∷ first (switch_causes (record_now plain).edition (record_now plain)) ∷ []) (5 ∷ 0 ∷ [])
    ∷ row 1302 (editions (record_now plain) ++ editions (switched plain) ++ editions (switched mixed)) (1 ∷ 0 ∷ 1 ∷ 1 ∷ 2 ∷ 0 ∷ [])
    -- an append goes on in the head's edition
    ∷ row 1303 (take 19 (drop 32 (done plain (write b (replicate 8 7))))) (1 ∷ 1 ∷ 0 ∷ 2 ∷ 0 ∷ 0 ∷ 0 ∷ 2 ∷ 0 ∷ 0 ∷ 0 ∷ replicate 8 7)
    -- a new head is of the second, and what it keeps is rewritten; behind it the record has that edition
    ∷ row 1304 (take 41 (drop 256 (done plain (clean 1)))) (take 41 (wide 2 2 2 (small a 1 ∷ [])))
    ∷ row 1304 (recovers (done plain (clean 1))) (gives (record { head = 1; end = 40; digest = 2; map = 2; next = 2; keys = 1; left = 0 }))
    ∷ row 1304 (editions (after plain (clean 1)) ++ editions (record_now (done plain (clean 1)))) (2 ∷ 1 ∷ 2 ∷ 0 ∷ [])
    -- past the versions of edition 1: 9 until the switch; then an entry does not fit the head, and 12 with one slot free
    ∷ row 1305 (start_number (seg 1 1 spent [] ++ vacant ++ vacant ++ vacant) (write a (replicate 8 1)) ∷ number (seg 1 1 spent [] ++ vacant ++ vacant ++ vacant) (write a (replicate 8 1)) ∷ number (seg 3 7 spent [] ++ bare 1 ++ bare 2 ++ vacant) (write a (replicate 8 1)) ∷ [])
    (9 ∷ 0 ∷ 12 ∷ [])
    ∷ row 1305 (take 41 (drop 256 (done (seg 1 1 spent [] ++ vacant ++ vacant ++ vacant) (write a (replicate 8 1))))) (take 41 (wide 2 3 spent (object a spent (replicate 8 1) ∷ [])))
    -- one old victim may meet 14, and a full delete 12, before 10
    ∷ row 1306 (start_number (jammed 3) (clean 1) ∷ number (jammed 3) (clean 1) ∷ number (jammed 3) (clean 2) ∷ []) (0 ∷ 14 ∷ 0 ∷ [])
    ∷ row 1306 (start_number (jammed 3) (delete (third 1)) ∷ number (jammed 3) (delete (third 1)) ∷ number (jammed 3) (delete (keyed 4 2)) ∷ []) (0 ∷ 12 ∷ 0 ∷ [])
    ∷ row 1306 (start_number (jammed spent) (delete (third 1)) ∷ number (jammed spent) (delete (third 1)) ∷ number (jammed spent) (delete (keyed 4 2)) ∷ []) (10 ∷ 12 ∷ 10 ∷ [])
    ∷ []
