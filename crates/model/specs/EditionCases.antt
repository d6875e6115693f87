-- Cases of 02, R-11: a store of edition 2, and images in which digests of both editions stand. Rows are numbered as in RequestCases.
use Rattle.std.specs.Prelude.{ℕ, ◌≡◌, refl, List, [], ◌∷◌, ◌++◌, map, take, drop, replicate}
use Rattle.segment.specs.Layout.{edition1, edition2}
use Rattle.segment.specs.Entry.{Entry}
use Rattle.segment.specs.declared.Key.{Key}
use Rattle.model.specs.Operations.{write, delete}
use Rattle.model.specs.Play.{first, fresh_in, keyed, object, slot_with, segment_in, recovers, refuses, start_number, starts, played, reads}
use Rattle.model.specs.Refused.{format_causes}
use Rattle.model.specs.Expected.{holds, gives, to_come}
use Rattle.model.specs.Areas.{a, seg, bare, vacant}
use Rattle.model.specs.Table.{Row, row}

-- a slot of edition 2 with a digest and entries, and 255 behind them
abbrev wide : (number map next : ℕ) → List Entry → List ℕ
wide number map next es = slot_with 255 (segment_in edition2 number map next es)

-- one with damage behind its digest, which is a kind of the other edition
abbrev foreign : (number map next kind : ℕ) → List ℕ
foreign number map next kind = slot_with 255 (segment_in edition2 number map next [] ++ kind ∷ replicate 130 1)

abbrev fresh : List ℕ
fresh = fresh_in edition2 255

abbrev nine : Key
nine = keyed 7 9

-- next version and versions above edition 1's limits
abbrev high : ℕ
high = 4294967296

abbrev pub rows : List Row
rows =
    -- a fresh store: digest of kind 8 and 17 bytes
    row 1101 (map first (format_causes 1 4 256 1024 ∷ format_causes 2 4 256 1024 ∷ format_causes 0 4 256 1024 ∷ format_causes 3 4 256 1024 ∷ [])) (0 ∷ 0 ∷ 1 ∷ 1 ∷ [])
    ∷ row 1101 (take 18 fresh) (8 ∷ 1 ∷ 0 ∷ 0 ∷ 0 ∷ 1 ∷ 0 ∷ 0 ∷ 0 ∷ 1 ∷ replicate 8 0)
    ∷ row 1101 (recovers fresh) (gives (record { head = 0; end = 17; digest = 1; map = 1; next = 1; keys = 0; left = 0 }))
    -- a write of eight bytes: kind 9, 23 bytes, 24 stores
    ∷ row 1102 (starts fresh (write nine (replicate 8 0x11))) (to_come 24 ++ holds (record { head = 0; end = 17; digest = 1; map = 1; next = 1; keys = 0; left = 24 }))
    ∷ row 1102 (take 23 (drop 17 (played fresh (write nine (replicate 8 0x11))))) (9 ∷ 7 ∷ 0 ∷ 9 ∷ 0 ∷ 0 ∷ 0 ∷ 1 ∷ replicate 7 0 ++ replicate 8 0x11)
    -- a delete of it: kind 13, 15 bytes
    ∷ row 1102 (take 15 (drop 40 (played (played fresh (write nine (replicate 8 0x11))) (delete nine)))) (13 ∷ 7 ∷ 0 ∷ 9 ∷ 0 ∷ 0 ∷ 0 ∷ 2 ∷ replicate 7 0)
    -- versions above edition 1's: the highest next version of edition 2 alone is spent
    ∷ row 1103 (start_number (wide 1 1 high [] ++ vacant ++ vacant ++ vacant) (write a (replicate 8 1)) ∷ start_number (wide 1 1 18446744073709551615 [] ++ vacant ++ vacant ++ vacant) (write a (replicate 8 1)) ∷ start_number (seg 1 1 4294967295 [] ++ vacant ++ vacant ++ vacant) (write a (replicate 8 1)) ∷ [])
    (0 ∷ 9 ∷ 9 ∷ [])
    ∷ row 1103 (reads (wide 1 1 1 (object a high (replicate 8 1) ∷ []) ++ vacant ++ vacant ++ vacant) a) (0 ∷ 0 ∷ high ∷ 9 ∷ replicate 8 1)
    -- the highest number over both editions is the head's, whatever a free slot holds
    ∷ row 1104 (recovers (seg 1 1 1 [] ++ wide 2 2 1 [] ++ vacant ++ vacant)) (gives (record { head = 1; end = 17; digest = 2; map = 2; next = 1; keys = 0; left = 0 }))
    ∷ row 1104 (recovers (seg 2 1 1 [] ++ wide 1 2 1 [] ++ vacant ++ vacant)) (gives (record { head = 0; end = 13; digest = 2; map = 1; next = 1; keys = 0; left = 0 }))
    -- a number that both editions have is shared, also with a free slot
    ∷ row 1105 (map refuses ((seg 2 1 1 [] ++ wide 2 2 1 [] ++ vacant ++ vacant) ∷ (wide 2 1 1 [] ++ bare 2 ++ vacant ++ vacant) ∷ [])) (17 ∷ 17 ∷ [])
    -- a slot of the first edition under a head of the second (R-13), one of the second under a head of the first, and with damage in it
    ∷ row 1106 (map refuses ((seg 1 1 1 [] ++ wide 2 3 1 [] ++ vacant ++ vacant) ∷ (wide 1 1 1 [] ++ seg 2 3 1 [] ++ vacant ++ vacant) ∷ (foreign 1 1 1 1 ++ seg 2 3 1 [] ++ vacant ++ vacant) ∷ [])) (0 ∷ 28 ∷ 28 ∷ [])
    -- 25 before it
    ∷ row 1106 (refuses (wide 1 1 1 [] ++ seg 2 7 1 [] ++ vacant ++ vacant) ∷ []) (25 ∷ [])
    -- kinds of edition 1 in a segment of edition 2 are damage, and the other way round
    ∷ row 1107 (map (λ k. refuses (foreign 2 1 1 k ++ vacant ++ vacant ++ vacant)) (1 ∷ 2 ∷ 3 ∷ 4 ∷ 5 ∷ 7 ∷ 8 ∷ 14 ∷ [])) (replicate 8 18)
    ∷ row 1107 (map (λ k. refuses (slot_with 255 (segment_in edition1 2 1 1 [] ++ k ∷ replicate 140 1) ++ vacant ++ vacant ++ vacant)) (8 ∷ 9 ∷ 12 ∷ 13 ∷ [])) (replicate 4 18)
    -- the longest entry fits a fresh segment: 17 and 135 bytes
    ∷ row 1108 (starts fresh (write nine (replicate 120 0x11))) (to_come 136 ++ holds (record { head = 0; end = 17; digest = 1; map = 1; next = 1; keys = 0; left = 136 }))
    ∷ []
