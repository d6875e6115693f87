-- Cases of 02, R-12: images put into the other edition, up and down. Rows are numbered as in RequestCases.
use Rattle.std.specs.Prelude.{ℕ, ◌≡◌, refl, List, [], ◌∷◌, ◌++◌, map, take, drop, replicate}
use Rattle.segment.specs.Layout.{edition2}
use Rattle.segment.specs.Entry.{Entry}
use Rattle.model.specs.Play.{first, keyed, object, tombstone, slot_with, segment_in, recovers}
use Rattle.model.specs.Conversion.{convert_causes, converted_image}
use Rattle.model.specs.Expected.{gives}
use Rattle.model.specs.Areas.{a, b, c, d, small, large, tombstones, seg, bare, vacant, damaged_head}
use Rattle.model.specs.Table.{Row, row}

-- a slot of edition 2 with a digest and entries, and 255 behind them
abbrev wide : (number map next : ℕ) → List Entry → List ℕ
wide number map next es = slot_with 255 (segment_in edition2 number map next es)

-- the number of the first cause with buffers of the right length
abbrev answers : List ℕ → ℕ
answers area = first (convert_causes 4 256 area 1024)

-- an area whose head is slot 0 and alone in its log
abbrev alone : List ℕ → List ℕ
alone slot = slot ++ vacant ++ vacant ++ vacant

-- The head is slot 1, and slot 0 is in its log; a free slot has a digest.
abbrev two : List ℕ
two = seg 2 1 5 (small a 1 ∷ tombstone b 2 ∷ []) ++ seg 7 3 1 (large c 3 ∷ []) ++ bare 4 ++ vacant

-- slot 0 of it in edition 2
abbrev raised : List ℕ
raised =
    8 ∷ 2 ∷ 0 ∷ 0 ∷ 0 ∷ 1 ∷ 0 ∷ 0 ∷ 0 ∷ 5 ∷ replicate 7 0 ++ 9 ∷ 1 ∷ 0 ∷ 1 ∷ 0 ∷ 0 ∷ 0 ∷ 1 ∷ replicate 7 0 ++ replicate 8 1 ++
    13 ∷ 1 ∷ 0 ∷ 2 ∷ 0 ∷ 0 ∷ 0 ∷ 2 ∷ replicate 7 0 ++ replicate 201 0

-- entries that fill a slot of edition 2 exactly: 17, 71, 39, three times 23 and four times 15 bytes
abbrev filling : List Entry
filling = large a 5 ∷ object b 6 (replicate 24 1) ∷ small c 7 ∷ small d 8 ∷ small (keyed 1 9) 9 ∷ tombstones 4

abbrev high : ℕ
high = 4294967295

abbrev pub rows : List Row
rows =
    -- up: each log slot with its own digest's fields and its entries in order; every other byte is 0
    row 1201 (take 256 (converted_image 4 256 two)) raised
    ∷ row 1201 (drop 512 (converted_image 4 256 two)) (replicate 512 0)
    ∷ row 1201 (recovers (converted_image 4 256 two)) (gives (record { head = 1; end = 88; digest = 7; map = 3; next = 4; keys = 3; left = 0 }))
    -- down again: the bytes that the log had, and 0 behind them
    ∷ row 1202 (take 43 (converted_image 4 256 (converted_image 4 256 two))) (take 43 two)
    ∷ row 1202 (take 80 (drop 256 (converted_image 4 256 (converted_image 4 256 two)))) (take 80 (drop 256 two))
    ∷ row 1202 (drop 336 (converted_image 4 256 (converted_image 4 256 two))) (replicate 688 0)
    -- either buffer's length
    ∷ row 1203 (first (convert_causes 4 256 two 1024) ∷ first (convert_causes 4 256 two 1023) ∷ first (convert_causes 4 256 (drop 1 two) 1024) ∷ first (convert_causes 4 255 two 1024) ∷ [])
    (0 ∷ 1 ∷ 1 ∷ 1 ∷ [])
    -- 29: exactly full, and one byte too many by fifteen and sixteen tombstones
    ∷ row 1204 (map (λ es. answers (alone (seg 1 1 1 es))) (filling ∷ (tombstone (keyed 2 1) 10 ∷ filling) ∷ tombstones 15 ∷ tombstones 16 ∷ [])) (0 ∷ 29 ∷ 0 ∷ 29 ∷ [])
    -- and downwards never
    ∷ row 1204 (answers (alone (wide 1 1 1 filling)) ∷ []) (0 ∷ [])
    -- 30: a version of an entry, above the highest of edition 1
    ∷ row 1205 (map (λ v. answers (alone (wide 1 1 1 (object a v (replicate 8 1) ∷ [])))) (4294967294 ∷ high ∷ [])) (0 ∷ 30 ∷ [])
    -- a next version above edition 1's limit, in the head's digest, in that of another log slot, and in a free slot's
    ∷ row 1206 (map (λ n. answers (alone (wide 1 1 n []))) (high ∷ 4294967296 ∷ [])) (0 ∷ 30 ∷ [])
    ∷ row 1206 (map (λ m. answers (wide 1 1 4294967296 [] ++ wide 2 m 1 [] ++ vacant ++ vacant)) (3 ∷ 2 ∷ [])) (30 ∷ 0 ∷ [])
    -- what recovery finds wrong comes first
    ∷ row 1207
    (map answers
    (alone vacant ∷ alone (seg 0 1 1 []) ∷ alone (seg 1 2 1 []) ∷ alone (seg 1 3 1 []) ∷ (seg 1 1 1 [] ++ wide 2 3 1 [] ++ vacant ++ vacant) ∷ alone (damaged_head 1 1 1) ∷ alone (seg 1 1 1 (small a 1 ∷ small b 1 ∷ tombstones 15)) ∷ []))
    (16 ∷ 17 ∷ 24 ∷ 25 ∷ 28 ∷ 18 ∷ 19 ∷ [])
    ∷ []
