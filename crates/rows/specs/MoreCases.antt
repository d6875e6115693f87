-- Cases beyond 01's: every refusal, picked as the first of several causes that hold, and the corners of the log. Two rows more, of 23
-- and 35, are in model/specs/Pinned.antt.
use Rattle.std.specs.Prelude.{ℕ, zero, suc, ◌*◌, ◌≡◌, refl, List, [], ◌∷◌, ◌++◌, map, length, take, drop, replicate}
use Rattle.segment.specs.Layout.{edition1}
use Rattle.segment.specs.Entry.{Entry}
use Rattle.record.specs.declared.Pending.TheVariants.{Idle, Append, NewHead, Clean, Forget}
use Rattle.record.specs.declared.Record.{Record}
use Rattle.record.specs.Reach.{all_tables}
use Rattle.model.specs.Recovery.{recovery}
use Rattle.model.specs.Operations.{Operation, write, delete, clean, formatted, all_encoded}
use Rattle.model.specs.Refused.{freely, format_causes, read_causes, start_causes, step_causes}
use Rattle.model.specs.Play.{opened, fresh_over, keyed, object, tombstone, slot_with, segment_with, first, recovery_numbers, recovers, refuses_with, refuses, lent_with, start_number, starts, begins, ends, stores, cut_after, played, played_all, reads, keeps}
use Rattle.model.specs.Expected.{holds, gives, refused_by, to_come, done, shows}
use Rattle.model.specs.Areas.{a, b, c, d, small, large, long, tombstones, limit, seg, bare, vacant, damaged_head, sixteen_keys, crowded, record_of, idle, busy}
use Rattle.model.specs.Table.{Row, row, failing, Hold}
use Rattle.model.proofs.Table.{joined, rows-hold}

-- ---- what recovery refuses: a row's number is the refusal's

-- one version twice in slot 0, and in slot 1 these bytes
abbrev shared_and : List ℕ → List ℕ
shared_and bytes =
    seg 2 3 1 (small (keyed 1 1) 1 ∷ small (keyed 1 2) 1 ∷ []) ++ slot_with 255 (segment_with 1 0 0 [] ++ bytes) ++ vacant ++ vacant

abbrev formats : ℕ × ℕ × ℕ → ℕ
formats g = first (format_causes 1 g.0 g.1 g.2)

abbrev recovery_refusals : List Row
recovery_refusals =
    row 1 (map formats ((3, 256, 768) ∷ (33, 256, 8448) ∷ (4, 255, 1020) ∷ (4, 2049, 8196) ∷ (4, 256, 1023) ∷ (4, 256, 1025) ∷ []))
    (1 ∷ 1 ∷ 1 ∷ 1 ∷ 1 ∷ 1 ∷ [])
    ∷ row 1 (map formats ((4, 256, 1024) ∷ (32, 2048, 65536) ∷ [])) (0 ∷ 0 ∷ [])
    ∷ row 1 (map (refuses_with 15 []) (replicate 1023 0 ∷ replicate 1025 0 ∷ [])) (1 ∷ 1 ∷ [])
    ∷ row 2 (refuses_with 15 [] (fresh_over 0) ∷ refuses_with 4097 [] (fresh_over 0) ∷ []) (2 ∷ 2 ∷ [])
    ∷ row 2 (refuses_with 16 (3 ∷ 1 ∷ 0 ∷ 2 ∷ []) (fresh_over 0) ∷ refuses_with 4096 (3 ∷ 1 ∷ 0 ∷ 2 ∷ []) (fresh_over 0) ∷ []) (0 ∷ 0 ∷ [])
    ∷ row 15
    (map (λ order. refuses_with 16 order (replicate 1024 0))
    ((0 ∷ 1 ∷ 2 ∷ []) ∷ (0 ∷ 1 ∷ 2 ∷ 2 ∷ []) ∷ (0 ∷ 1 ∷ 2 ∷ 4 ∷ []) ∷ (0 ∷ 1 ∷ 2 ∷ 3 ∷ 3 ∷ []) ∷ []))
    (15 ∷ 15 ∷ 15 ∷ 15 ∷ [])
    ∷ row 16 (map refuses (replicate 1024 0 ∷ replicate 1024 255 ∷ [])) (16 ∷ 16 ∷ [])
    -- highest number 0; shared with a free slot; next version 0
    ∷ row 17
    (map refuses
    ((damaged_head 0 1 1 ++ vacant ++ vacant ++ vacant)
    ∷ (damaged_head 2 1 1 ++ vacant ++ vacant ++ bare 2)
    ∷ (damaged_head 2 1 0 ++ vacant ++ vacant ++ vacant)
    ∷ []))
    (17 ∷ 17 ∷ 17 ∷ [])
    -- a lower number may be shared, and the other digests' maps and next versions say nothing
    ∷ row 17 (refuses (seg 2 3 1 [] ++ bare 1 ++ bare 1 ++ bare 1) ∷ []) (0 ∷ [])
    -- kinds 5, 6, 8 and 255; a version of 0 and one at the limit; an entry past the end by one byte; each in the last slot of the log
    ∷ row 18
    (map (λ bytes. refuses (shared_and bytes))
    ((5 ∷ [])
    ∷ (6 ∷ [])
    ∷ (8 ∷ [])
    ∷ (255 ∷ [])
    ∷ all_encoded edition1 (small (keyed 1 3) 0 ∷ [])
    ∷ all_encoded edition1 (tombstone (keyed 1 3) 4294967295 ∷ [])
    ∷ all_encoded edition1 (tombstones 10 ++ large (keyed 2 1) 11 ∷ large (keyed 2 2) 12 ∷ [])
    ∷ all_encoded edition1 (large (keyed 2 1) 11 ∷ object (keyed 2 2) 12 (replicate 24 12) ∷ tombstone (keyed 2 3) 13 ∷ long (keyed 2 4) 14 ∷ [])
    ∷ []))
    (replicate 8 18)
    ∷ row 19 (map (λ bytes. refuses (shared_and bytes)) ([] ∷ all_encoded edition1 (tombstone (keyed 1 3) 4294967294 ∷ []) ∷ [])) (19 ∷ 19 ∷ [])
    ∷ row 19 (refuses (sixteen_keys 15) ∷ []) (19 ∷ [])
    -- damage and a shared version in a free slot are nothing
    ∷ row 19 (refuses (seg 2 1 1 (small (keyed 1 1) 1 ∷ []) ++ slot_with 255 (segment_with 1 2 1 (small (keyed 1 2) 1 ∷ []) ++ 6 ∷ []) ++ vacant ++ vacant) ∷ []) (0 ∷ [])
    ∷ row 20 (refuses (sixteen_keys 16) ∷ refuses_with 17 (0 ∷ 1 ∷ 2 ∷ 3 ∷ []) (sixteen_keys 16) ∷ []) (20 ∷ 0 ∷ [])
    -- where recovery refuses, the record beside its number is blank
    ∷ row 20 (recovers (sixteen_keys 16)) (20 ∷ replicate 10 0)
    ∷ []

-- ---- what the other calls refuse

-- reading a key of an empty log, with memory as long as the record says: 4, or 8
abbrev reads_of : Record → ℕ
reads_of r =
    first (read_causes edition1 r [] (record { area = r.slots * r.size; index = r.cells; work = 0 }) all_tables (keyed 7 9))

abbrev steps : Record → ℕ → ℕ
steps r work = first (step_causes edition1 r (lent_with work))

abbrev starts_of : Record → ℕ → Operation → ℕ
starts_of r work o = first (start_causes edition1 r [] (lent_with work) freely o)

abbrev bad_ones : List Operation
bad_ones = write (keyed 7 9) (replicate 7 1) ∷ delete (keyed 7 9) ∷ clean 0 ∷ []

-- a crowded area with one tombstone more, so that nothing fits the head
abbrev filled : (number map next : ℕ) → List ℕ
filled number map next =
    seg number map next (tombstones 15 ++ large (keyed 1 1) 16 ∷ tombstone (keyed 1 2) 17 ∷ []) ++ bare 1 ++ bare 2 ++ vacant

-- live objects of 201 bytes in slot 0 and as many in slot 1, the head
abbrev wide : ℕ → List ℕ
wide number =
    seg 1 1 1 (large (keyed 1 1) 1 ∷ large (keyed 1 2) 2 ∷ large (keyed 1 3) 3 ∷ []) ++
    seg number 3 4 (large (keyed 2 1) 4 ∷ large (keyed 2 2) 5 ∷ large (keyed 2 3) 6 ∷ []) ++ vacant ++ vacant

abbrev new_key : ℕ → Operation
new_key n = write (keyed 2 1) (replicate n 1)

abbrev old_key : ℕ → Operation
old_key n = write (keyed 1 2) (replicate n 1)

abbrev call_refusals : List Row
call_refusals =
    row 3 (steps idle 255 ∷ steps idle 256 ∷ steps idle 300 ∷ []) (3 ∷ 6 ∷ 6 ∷ [])
    ∷ row 3 (map (starts_of (busy (Append 19 20)) 255) bad_ones) (3 ∷ 3 ∷ 3 ∷ [])
    -- N, S, M outside their limits
    ∷ row 4
    (map reads_of
    (record_of 3 256 16 13 1 1 1 0 Idle
    ∷ record_of 33 256 16 13 1 1 1 0 Idle
    ∷ record_of 4 255 16 13 1 1 1 0 Idle
    ∷ record_of 4 2049 16 13 1 1 1 0 Idle
    ∷ record_of 4 256 15 13 1 1 1 0 Idle
    ∷ record_of 4 256 4097 13 1 1 1 0 Idle
    ∷ []))
    (4 ∷ 4 ∷ 4 ∷ 4 ∷ 4 ∷ 4 ∷ [])
    -- a map with slot 4, without the head, of all slots; the end; number and next version 0; the keys
    ∷ row 4
    (map reads_of
    (record_of 4 256 16 13 1 17 1 0 Idle
    ∷ record_of 4 256 16 13 1 2 1 0 Idle
    ∷ record_of 4 256 16 13 1 15 1 0 Idle
    ∷ record_of 4 256 16 12 1 1 1 0 Idle
    ∷ record_of 4 256 16 257 1 1 1 0 Idle
    ∷ record_of 4 256 16 13 0 1 1 0 Idle
    ∷ record_of 4 256 16 13 1 1 0 0 Idle
    ∷ record_of 4 256 16 13 1 1 1 16 Idle
    ∷ []))
    (4 ∷ 4 ∷ 4 ∷ 4 ∷ 4 ∷ 4 ∷ 4 ∷ 4 ∷ [])
    -- stores left: 0 and over S + 1
    ∷ row 4
    (map (λ p. reads_of (busy p)) (Append 19 0 ∷ NewHead 1 32 0 ∷ Clean 1 1 13 0 ∷ Forget 1 1 13 0 ∷ Append 19 258 ∷ NewHead 1 32 258 ∷ Clean 1 1 13 258 ∷ Forget 1 1 13 258 ∷ []))
    (replicate 8 4)
    -- all of these at their limits
    ∷ row 4
    (map reads_of
    (record_of 32 2048 4096 2048 limit 0x7fff_ffff limit 4095 (Append 19 2049)
    ∷ record_of 4 256 16 256 1 7 1 15 (NewHead 3 32 257)
    ∷ busy (Clean 1 1 13 1)
    ∷ []))
    (8 ∷ 8 ∷ 8 ∷ [])
    -- lent lengths that are not the record's own
    ∷ row 4
    (map (λ l. first (read_causes edition1 idle [] l all_tables (keyed 7 9)))
    (record { area = 1023; index = 16; work = 0 } ∷ record { area = 1024; index = 17; work = 0 } ∷ []))
    (4 ∷ 4 ∷ [])
    ∷ row 4 (steps (busy (Append 19 0)) 255 ∷ map (starts_of (busy (Append 19 258)) 255) bad_ones) (4 ∷ 4 ∷ 4 ∷ 4 ∷ [])
    ∷ row 5 (map (starts_of (busy (Append 19 20)) 256) bad_ones) (5 ∷ 5 ∷ 5 ∷ [])
    ∷ row 6 (steps idle 256 ∷ steps (busy (Append 19 20)) 256 ∷ []) (6 ∷ 0 ∷ [])
    ∷ row 7 (map (λ n. start_number (crowded limit 7 limit) (new_key n)) (0 ∷ 7 ∷ 9 ∷ 23 ∷ 25 ∷ 55 ∷ 57 ∷ 119 ∷ 121 ∷ [])) (replicate 9 7)
    ∷ row 8 (map (start_number (crowded limit 7 limit)) (delete (keyed 1 2) ∷ delete (keyed 2 1) ∷ [])) (8 ∷ 8 ∷ [])
    ∷ row 9 (map (start_number (crowded limit 7 limit)) (new_key 8 ∷ new_key 120 ∷ old_key 8 ∷ delete (keyed 1 1) ∷ [])) (9 ∷ 9 ∷ 9 ∷ 9 ∷ [])
    ∷ row 9 (map (start_number (filled limit 7 limit)) (delete (keyed 1 1) ∷ delete (keyed 1 2) ∷ [])) (9 ∷ 8 ∷ [])
    -- with the next version at its limit cleaning works
    ∷ row 9 (start_number (crowded 3 7 limit) (clean 1) ∷ []) (0 ∷ [])
    ∷ row 10 (map (start_number (crowded limit 3 1)) (old_key 8 ∷ old_key 24 ∷ old_key 56 ∷ old_key 120 ∷ clean 1 ∷ [])) (replicate 5 10)
    -- with the digest number at its limit an entry that fits is taken; one below the limit a new head is
    ∷ row 10 (start_number (crowded limit 3 1) (delete (keyed 1 1)) ∷ start_number (crowded 4294967294 3 1) (old_key 8) ∷ []) (0 ∷ 0 ∷ [])
    ∷ row 10 (start_number (filled limit 3 1) (delete (keyed 1 1)) ∷ start_number (filled 4294967294 3 1) (delete (keyed 1 1)) ∷ []) (10 ∷ 0 ∷ [])
    ∷ row 11 (map (start_number (crowded limit 7 1)) (new_key 8 ∷ new_key 120 ∷ [])) (11 ∷ 11 ∷ [])
    ∷ row 12 (map (start_number (crowded limit 7 1)) (old_key 8 ∷ old_key 120 ∷ [])) (12 ∷ 12 ∷ [])
    -- a delete finds room where a write of its size would not
    ∷ row 12 (start_number (filled limit 7 1) (delete (keyed 1 1)) ∷ start_number (filled 3 7 1) (delete (keyed 1 1)) ∷ []) (10 ∷ 0 ∷ [])
    -- two free slots are enough, and an entry that fits needs none
    ∷ row 12 (start_number (crowded 3 3 1) (old_key 8) ∷ start_number (crowded 3 7 1) (delete (keyed 1 1)) ∷ []) (0 ∷ 0 ∷ [])
    ∷ row 13 (map (λ v. start_number (crowded limit 7 1) (clean v)) (0 ∷ 8 ∷ 9 ∷ 16 ∷ [])) (13 ∷ 13 ∷ 13 ∷ 13 ∷ [])
    ∷ row 13 (start_number (wide limit) (clean 7) ∷ []) (13 ∷ [])
    ∷ row 14 (map (λ v. start_number (wide limit) (clean v)) (3 ∷ 1 ∷ 2 ∷ [])) (14 ∷ 10 ∷ 10 ∷ [])
    -- a refused start leaves record and work buffer
    ∷ row 14 (starts (wide 2) (clean 3)) (refused_by 14 ++ holds (record { head = 1; end = 214; digest = 2; map = 3; next = 7; keys = 6; left = 0 }))
    ∷ row 14 (begins (wide 2) (clean 3)).work (replicate 256 170)
    ∷ []

-- ---- corners of the log: rows 21 and on

-- what recovery gives after each number of stores below n
abbrev cuts_below : ℕ → List ℕ → Operation → List ℕ
cuts_below zero area o = []
cuts_below (suc k) area o = cuts_below k area o ++ recovers (cut_after k area o)

abbrev times : ℕ → List ℕ → List ℕ
times zero xs = []
times (suc n) xs = xs ++ times n xs

-- slot 3 is the head, and slots 0 and 2 are free
abbrev high : List ℕ
high = vacant ++ seg 4 2 1 (small a 2 ∷ small b 3 ∷ []) ++ seg 3 4 1 [] ++ seg 9 10 5 (small a 5 ∷ [])

-- slot 0 and the head, slot 1, with a key for each rule of cleaning
abbrev mixed : List ℕ
mixed =
    seg 1 1 1 (small c 1 ∷ small a 3 ∷ tombstone b 6 ∷ []) ++
    seg 2 3 1 (tombstone a 2 ∷ small b 5 ∷ tombstone c 7 ∷ small d 8 ∷ tombstone (keyed 2 1) 9 ∷ []) ++ vacant ++ vacant

-- an older tombstone of a key in slot 0, an object and a newer tombstone in the head
abbrev deleted_twice : List ℕ
deleted_twice = seg 1 1 1 (tombstone a 2 ∷ []) ++ seg 2 3 3 (small a 3 ∷ tombstone a 4 ∷ []) ++ vacant ++ vacant

-- entries of 243 bytes, and a head of them, which ends at S; slot 0 has objects of the tombstones' keys
abbrev filling_entries : List Entry
filling_entries =
    large (keyed 2 1) 4
    ∷ large (keyed 2 2) 5
    ∷ small (keyed 2 3) 6
    ∷ small (keyed 2 4) 7
    ∷ small (keyed 2 5) 8
    ∷ small (keyed 2 6) 9
    ∷ tombstone a 10
    ∷ tombstone b 11
    ∷ tombstone c 12
    ∷ []

abbrev filled_head : List ℕ
filled_head = seg 1 1 1 (small a 1 ∷ small b 2 ∷ small c 3 ∷ []) ++ seg 2 3 4 filling_entries ++ vacant ++ seg 1 8 1 []

abbrev head_alone : ℕ → List Entry → List ℕ
head_alone next es = seg 1 1 next es ++ vacant ++ vacant ++ vacant

-- a write of 56 bytes 1, cut after 60 stores, and then one of 8 bytes 2 under another key
abbrev cut_then_written : List ℕ
cut_then_written = played (cut_after 60 (fresh_over 0) (write a (replicate 56 1))) (write b (replicate 8 2))

abbrev cut_rows : List Row
cut_rows =
    -- an append, cut after each of its stores but the last, over bytes that are kinds
    row 21 (cuts_below 20 (fresh_over 4) (write a (replicate 8 1))) (times 20 (gives (record { head = 0; end = 13; digest = 1; map = 1; next = 1; keys = 0; left = 0 })))
    ∷ row 22 (map (λ s. stores (fresh_over s) (write a (replicate 8 1))) (0 ∷ 1 ∷ 4 ∷ 5 ∷ [])) (20 ∷ 20 ∷ 20 ∷ 20 ∷ [])
    ∷ row 22 (recovers (played (fresh_over 4) (write a (replicate 8 1)))) (gives (record { head = 0; end = 32; digest = 1; map = 1; next = 2; keys = 1; left = 0 }))
    ∷ row 22 (recovers (played (fresh_over 5) (write a (replicate 8 1)))) (gives (record { head = 0; end = 32; digest = 1; map = 1; next = 2; keys = 1; left = 0 }))
    -- a new head over an old digest, cut after each store but the last, for a write and for a cleaning; all of the write's done
    ∷ row 23 (cuts_below 34 (crowded 3 3 1) (old_key 8)) (times 34 (gives (record { head = 0; end = 245; digest = 3; map = 3; next = 17; keys = 15; left = 0 })))
    ∷ row 23 (cuts_below 15 (crowded 3 3 1) (clean 2)) (times 15 (gives (record { head = 0; end = 245; digest = 3; map = 3; next = 17; keys = 15; left = 0 })))
    ∷ row 23 (starts (crowded 3 3 1) (old_key 8)) (to_come 34 ++ holds (record { head = 0; end = 245; digest = 3; map = 3; next = 17; keys = 15; left = 34 }))
    ∷ row 23 (ends (crowded 3 3 1) (old_key 8)) (done 17 ++ holds (record { head = 2; end = 32; digest = 4; map = 7; next = 18; keys = 15; left = 0 }))
    ∷ row 23 (recovers (played (crowded 3 3 1) (old_key 8))) (gives (record { head = 2; end = 32; digest = 4; map = 7; next = 18; keys = 15; left = 0 }))
    -- the version in its digest is that of the entry written behind it
    ∷ row 24 (take 33 (drop 512 (played (crowded 3 3 1) (old_key 8)))) (segment_with 4 7 17 (object b 17 (replicate 8 1) ∷ []) ++ 0 ∷ [])
    ∷ []

abbrev cleaning_rows : List Row
cleaning_rows =
    -- the new head goes round to a slot below the old head, never to a victim's; the slot left behind keeps its lower digest
    row 25 (ends high (clean 8)) (done 0 ++ holds (record { head = 0; end = 32; digest = 10; map = 3; next = 6; keys = 2; left = 0 }))
    ∷ row 25 (recovers (played high (clean 8))) (gives (record { head = 0; end = 32; digest = 10; map = 3; next = 6; keys = 2; left = 0 }))
    ∷ row 25 (reads (played high (clean 8)) a) (shows 5 1 (replicate 8 5))
    ∷ row 25 (take 256 (played high (clean 10))) (slot_with 255 (segment_with 10 1 6 (small b 3 ∷ small a 5 ∷ [])))
    ∷ row 25 (recovers (played_all high (clean 10 ∷ delete b ∷ clean 1 ∷ []))) (gives (record { head = 1; end = 32; digest = 11; map = 2; next = 7; keys = 1; left = 0 }))
    -- what is kept: only highest versions, and a tombstone only for an object outside the victims
    ∷ row 26 (keeps mixed 1) (all_encoded edition1 (small a 3 ∷ tombstone b 6 ∷ []))
    ∷ row 26 (keeps mixed 2) (all_encoded edition1 (tombstone c 7 ∷ small d 8 ∷ []))
    ∷ row 26 (keeps mixed 3) (all_encoded edition1 (small a 3 ∷ small d 8 ∷ []))
    ∷ row 26 (map (λ k. length (reads (played mixed (clean 2)) k)) (a ∷ b ∷ c ∷ d ∷ [])) (12 ∷ 4 ∷ 4 ∷ 12 ∷ [])
    -- a tombstone is dropped, an older one still stands outside the victims, and its key still counts
    ∷ row 27 (ends deleted_twice (clean 2)) (done 0 ++ holds (record { head = 2; end = 13; digest = 3; map = 5; next = 5; keys = 1; left = 0 }))
    ∷ row 27 (recovers (played deleted_twice (clean 2))) (gives (record { head = 2; end = 13; digest = 3; map = 5; next = 5; keys = 1; left = 0 }))
    ∷ row 27 (reads (played deleted_twice (clean 2)) a) (refused_by 8)
    ∷ row 27 (recovers (played deleted_twice (clean 3))) (gives (record { head = 2; end = 13; digest = 3; map = 4; next = 5; keys = 0; left = 0 }))
    ∷ []

abbrev limit_rows : List Row
limit_rows =
    -- the next version: the head digest's, or one more than the log's highest
    row 28 (recovers (head_alone 7 (small a 3 ∷ []))) (gives (record { head = 0; end = 32; digest = 1; map = 1; next = 7; keys = 1; left = 0 }))
    ∷ row 28 (recovers (head_alone 2 (small a 9 ∷ tombstone a 4 ∷ []))) (gives (record { head = 0; end = 43; digest = 1; map = 1; next = 10; keys = 1; left = 0 }))
    ∷ row 28 (recovers (head_alone 1 (tombstone a 4294967294 ∷ []))) (gives (record { head = 0; end = 24; digest = 1; map = 1; next = limit; keys = 1; left = 0 }))
    -- the last version there is, and none after it
    ∷ row 29 (ends (head_alone 4294967294 []) (write a (replicate 8 1))) (done 4294967294 ++ holds (record { head = 0; end = 32; digest = 1; map = 1; next = limit; keys = 1; left = 0 }))
    ∷ row 29 (start_number (played (head_alone 4294967294 []) (write a (replicate 8 1))) (write a (replicate 8 1)) ∷ []) (9 ∷ [])
    -- the last digest number
    ∷ row 29 (ends (wide 4294967294) (clean 1)) (done 0 ++ holds (record { head = 2; end = 214; digest = limit; map = 6; next = 7; keys = 6; left = 0 }))
    -- the stores of an operation that was cut short are nothing to the next one
    ∷ row 30 (recovers cut_then_written) (gives (record { head = 0; end = 32; digest = 1; map = 1; next = 2; keys = 1; left = 0 }))
    ∷ row 30 (reads cut_then_written a) (refused_by 8)
    ∷ row 30 (reads cut_then_written b) (shows 1 1 (replicate 8 2))
    -- a new head that ends at S: S + 1 stores, no kind 0 after it, and the next slot stays
    ∷ row 31 (stores filled_head (clean 2) ∷ []) (257 ∷ [])
    ∷ row 31 (drop 512 (played filled_head (clean 2))) (segment_with 3 5 13 filling_entries ++ seg 1 8 1 [])
    ∷ row 31 (recovers (played filled_head (clean 2))) (gives (record { head = 2; end = 256; digest = 3; map = 5; next = 13; keys = 9; left = 0 }))
    -- a delete that does not fit such a head
    ∷ row 31 (ends filled_head (delete (keyed 2 1))) (done 13 ++ holds (record { head = 2; end = 24; digest = 3; map = 7; next = 14; keys = 9; left = 0 }))
    ∷ row 31 (stores filled_head (delete (keyed 2 1)) ∷ []) (26 ∷ [])
    -- overwriting a key: the old value up to the last store
    ∷ row 32 (map (λ k. length (reads (cut_after k (head_alone 1 (small a 1 ∷ [])) (write a (replicate 24 2))) a)) (0 ∷ 17 ∷ 35 ∷ 36 ∷ [])) (12 ∷ 12 ∷ 12 ∷ 28 ∷ [])
    -- the lowest and the highest key are ordinary
    ∷ row 33 (reads (played_all (fresh_over 0) (write (keyed 0 0) (replicate 8 7) ∷ write (keyed 65535 limit) (replicate 8 8) ∷ [])) (keyed 0 0)) (shows 1 1 (replicate 8 7))
    ∷ row 33 (reads (played_all (fresh_over 0) (write (keyed 0 0) (replicate 8 7) ∷ write (keyed 65535 limit) (replicate 8 8) ∷ [])) (keyed 65535 limit)) (shows 2 1 (replicate 8 8))
    -- another geometry, and the slots read backwards
    ∷ row 34 (recovery_numbers (recovery edition1 5 300 20 (4 ∷ 3 ∷ 2 ∷ 1 ∷ 0 ∷ []) (formatted edition1 5 300 (replicate 1500 9)))) (0 ∷ 5 ∷ 300 ∷ 20 ∷ 0 ∷ 13 ∷ 1 ∷ 1 ∷ 1 ∷ 0 ∷ 0 ∷ [])
    ∷ []

-- ---- R-3, kind 7: rows 35 and on

abbrev lengthy : Operation
lengthy = write (keyed 7 9) (replicate 120 0x11)

abbrev lengthy_bytes : List ℕ
lengthy_bytes = 0x07 ∷ 0x07 ∷ 0x00 ∷ 0x09 ∷ 0x00 ∷ 0x00 ∷ 0x00 ∷ 0x01 ∷ 0x00 ∷ 0x00 ∷ 0x00 ∷ replicate 120 0x11

-- a head alone, with these bytes behind its digest
abbrev head_bytes : List ℕ → List ℕ
head_bytes bytes = slot_with 255 (segment_with 1 1 1 [] ++ bytes) ++ vacant ++ vacant ++ vacant

-- a head with room for one entry of 131 bytes
abbrev room_for_one : List ℕ
room_for_one = head_alone 1 (tombstones 7 ++ object (keyed 2 1) 8 (replicate 24 8) ∷ [])

-- three live objects of 120 bytes, each in a slot of its own; slot 2 is the head
abbrev three_long : List ℕ
three_long = seg 1 1 1 (long a 1 ∷ []) ++ seg 2 3 2 (long b 2 ∷ []) ++ seg 3 7 3 (long c 3 ∷ []) ++ vacant

abbrev long_rows : List Row
long_rows =
    row 35 (take 145 (played (fresh_over 4) lengthy)) (segment_with 1 1 1 [] ++ lengthy_bytes ++ 0 ∷ [])
    ∷ row 35 (ends (fresh_over 4) lengthy) (done 1 ++ holds (record { head = 0; end = 144; digest = 1; map = 1; next = 2; keys = 1; left = 0 }))
    ∷ row 35 (reads (cut_after 131 (fresh_over 4) lengthy) (keyed 7 9)) (refused_by 8)
    ∷ row 35 (recovers (cut_after 132 (fresh_over 4) lengthy)) (gives (record { head = 0; end = 144; digest = 1; map = 1; next = 2; keys = 1; left = 0 }))
    ∷ row 35 (reads (cut_after 132 (fresh_over 4) lengthy) (keyed 7 9)) (shows 1 7 (replicate 120 0x11))
    -- the same bytes behind another kind that is no entry's
    ∷ row 36 (map (λ k. refuses (head_bytes (k ∷ drop 1 lengthy_bytes))) (5 ∷ 6 ∷ 7 ∷ 8 ∷ 9 ∷ 13 ∷ 255 ∷ [])) (18 ∷ 18 ∷ 0 ∷ 18 ∷ 18 ∷ 18 ∷ 18 ∷ [])
    -- its version is tested like any entry's
    ∷ row 36 (map (λ v. refuses (head_bytes (all_encoded edition1 (object a v (replicate 120 1) ∷ [])))) (0 ∷ 1 ∷ limit ∷ [])) (18 ∷ 0 ∷ 18 ∷ [])
    -- one that ends at S
    ∷ row 37 (stores room_for_one (write a (replicate 120 9)) ∷ []) (131 ∷ [])
    ∷ row 37 (ends room_for_one (write a (replicate 120 9))) (done 9 ++ holds (record { head = 0; end = 256; digest = 1; map = 1; next = 10; keys = 8; left = 0 }))
    ∷ row 37 (reads (played room_for_one (write a (replicate 120 9))) a) (shows 9 7 (replicate 120 9))
    -- two do not fit a slot, so the second takes a new head; with one slot free a shorter one still fits the head
    ∷ row 38 (stores (head_alone 1 (long a 1 ∷ [])) (write b (replicate 120 2)) ∷ []) (146 ∷ [])
    ∷ row 38 (take 257 (drop 256 (played (head_alone 1 (long a 1 ∷ [])) (write b (replicate 120 2))))) (slot_with 255 (segment_with 2 3 2 (long b 2 ∷ [])) ++ 0 ∷ [])
    ∷ row 38 (map (λ n. start_number three_long (write d (replicate n 4))) (8 ∷ 56 ∷ 120 ∷ [])) (0 ∷ 0 ∷ 12 ∷ [])
    -- cleaning: any one victim fits, two do not
    ∷ row 39 (map (λ v. start_number three_long (clean v)) (1 ∷ 2 ∷ 4 ∷ 3 ∷ 7 ∷ [])) (0 ∷ 0 ∷ 0 ∷ 14 ∷ 14 ∷ [])
    ∷ row 39 (keeps three_long 2) (all_encoded edition1 (long b 2 ∷ []))
    ∷ row 39 (ends three_long (clean 2)) (done 0 ++ holds (record { head = 3; end = 144; digest = 4; map = 13; next = 4; keys = 3; left = 0 }))
    ∷ row 39 (reads (played three_long (clean 2)) b) (shows 2 7 (replicate 120 2))
    ∷ []

-- ---- each part computed, and the table

computed-recovery : failing recovery_refusals ≡ []
unfolding opened
computed-recovery = refl

computed-calls : failing call_refusals ≡ []
unfolding opened
computed-calls = refl

computed-cuts : failing cut_rows ≡ []
unfolding opened
computed-cuts = refl

computed-cleaning : failing cleaning_rows ≡ []
unfolding opened
computed-cleaning = refl

computed-limits : failing limit_rows ≡ []
unfolding opened
computed-limits = refl

computed-long : failing long_rows ≡ []
unfolding opened
computed-long = refl

abbrev pub more_cases : List Row
more_cases = recovery_refusals ++ (call_refusals ++ (cut_rows ++ (cleaning_rows ++ (limit_rows ++ long_rows))))

computed : failing more_cases ≡ []
computed =
    joined recovery_refusals _ computed-recovery (joined call_refusals _ computed-calls
    (joined cut_rows _ computed-cuts (joined cleaning_rows _ computed-cleaning (joined limit_rows long_rows computed-limits computed-long))))

pub more-cases-hold : Hold more_cases
more-cases-hold = rows-hold more_cases computed
