-- Cases of 02, R-8: which part of the head's digest is bad, alone and with another. Rows are numbered as in RequestCases.
use Rattle.std.specs.Prelude.{ℕ, ◌≡◌, refl, List, [], ◌∷◌, ◌++◌, map, replicate}
use Rattle.model.specs.Play.{keyed, slot_with, recovers, refuses}
use Rattle.model.specs.Areas.{small, seg, bare, vacant, damaged_head}
use Rattle.model.specs.Table.{Row, row}

-- a damaged head in slot 0 with this number, map and next version, in front of slots that begin with no digest
abbrev alone : (number map next : ℕ) → List ℕ
alone number map next = damaged_head number map next ++ vacant ++ vacant ++ vacant

-- slots 1 to 3 begin with digests of the numbers 1 to 3
abbrev among : (number map next : ℕ) → List ℕ
among number map next = damaged_head number map next ++ bare 1 ++ bare 2 ++ bare 3

-- Maps: 17 has slot 4, 2 lacks the head, 15 leaves none free, and 3 has slot 1 beside the head.
abbrev pub rows : List Row
rows =
    -- 24, with damage behind it: slot 4, a slot far above N, no head, not even a slot, none free
    row 801 (map refuses (among 5 17 1 ∷ among 5 0x8000_0001 1 ∷ among 5 2 1 ∷ among 5 0 1 ∷ among 5 15 1 ∷ [])) (replicate 5 24)
    -- 25, with damage behind it: slot 1 or slot 3 has no digest
    ∷ row 802
    (map refuses (alone 5 3 1 ∷ (damaged_head 5 3 1 ++ slot_with 255 (0 ∷ []) ++ bare 1 ++ bare 2) ∷ (damaged_head 5 9 1 ++ bare 1 ++ bare 2 ++ vacant) ∷ []))
    (25 ∷ 25 ∷ 25 ∷ [])
    -- three slots of four with a digest each leave one free; free slots need no digest; damage comes next
    ∷ row 802 (map refuses (among 5 7 1 ∷ alone 5 1 1 ∷ [])) (18 ∷ 18 ∷ [])
    -- two versions alike, and 25 before it
    ∷ row 802 (refuses (seg 5 3 1 (small (keyed 1 1) 1 ∷ small (keyed 1 2) 1 ∷ []) ++ vacant ++ vacant ++ vacant) ∷ []) (25 ∷ [])
    -- 17 and 24: number 0, number shared and next version 0, each with a bad map
    ∷ row 803 (map refuses (alone 0 17 1 ∷ alone 0 2 1 ∷ alone 0 15 1 ∷ [])) (17 ∷ 17 ∷ 17 ∷ [])
    ∷ row 803 (map refuses (among 3 17 1 ∷ among 3 2 1 ∷ among 3 15 1 ∷ [])) (17 ∷ 17 ∷ 17 ∷ [])
    ∷ row 803 (map refuses (among 5 17 0 ∷ among 5 2 0 ∷ among 5 0 0 ∷ among 5 15 0 ∷ [])) (replicate 4 17)
    -- 17 and 25: the same with a map that names a slot of no digest
    ∷ row 804 (map refuses (alone 0 3 1 ∷ (damaged_head 3 3 1 ++ vacant ++ vacant ++ bare 3) ∷ alone 5 3 0 ∷ [])) (17 ∷ 17 ∷ 17 ∷ [])
    -- 24 and 25: slot 4 and slot 1, slot 1 without the head, and all slots, of which the head alone has a digest
    ∷ row 805 (map refuses (alone 5 19 1 ∷ alone 5 2 1 ∷ alone 5 15 1 ∷ [])) (24 ∷ 24 ∷ 24 ∷ [])
    -- all three
    ∷ row 806 (map refuses (alone 0 19 1 ∷ alone 5 19 0 ∷ alone 5 15 0 ∷ [])) (17 ∷ 17 ∷ 17 ∷ [])
    -- beside either the record is blank
    ∷ row 807 (recovers (among 5 2 1) ++ recovers (alone 5 3 1)) ((24 ∷ replicate 10 0) ++ (25 ∷ replicate 10 0))
    ∷ []
