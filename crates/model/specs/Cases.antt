-- 01, "Values to hold it to": cases 1 to 8, with N 4 and S 256. A row's number is its case's.
use Rattle.std.specs.Prelude.{ℕ, ◌≡◌, refl, List, [], ◌∷◌, ◌++◌, take, drop, replicate}
use Rattle.segment.specs.declared.Key.{Key}
use Rattle.model.specs.Operations.{Operation, write, delete, clean}
use Rattle.model.specs.Refused.{format_causes}
use Rattle.model.specs.Play.{fresh_over, keyed, object, tombstone, slot_with, segment_with, first, recovers, starts, begins, steps_to, ends, stores, cut_after, played, played_all, reads, keeps}
use Rattle.model.specs.Expected.{holds, gives, refused_by, to_come, remaining, done, shows}
use Rattle.model.specs.Table.{Row, row}

-- The bytes that stood in the area before the format are 255, which is no kind.
abbrev fresh : List ℕ
fresh = fresh_over 255

abbrev fresh_digest : List ℕ
fresh_digest = 0x05 ∷ 0x01 ∷ 0x00 ∷ 0x00 ∷ 0x00 ∷ 0x01 ∷ 0x00 ∷ 0x00 ∷ 0x00 ∷ 0x01 ∷ 0x00 ∷ 0x00 ∷ 0x00 ∷ []

abbrev nine : Key
nine = keyed 7 9

abbrev writing : Operation
writing = write nine (replicate 8 0x11)

abbrev written_bytes : List ℕ
written_bytes = 0x01 ∷ 0x07 ∷ 0x00 ∷ 0x09 ∷ 0x00 ∷ 0x00 ∷ 0x00 ∷ 0x01 ∷ 0x00 ∷ 0x00 ∷ 0x00 ∷ replicate 8 0x11

abbrev tombstone_bytes : List ℕ
tombstone_bytes = 0x04 ∷ 0x07 ∷ 0x00 ∷ 0x09 ∷ 0x00 ∷ 0x00 ∷ 0x00 ∷ 0x02 ∷ 0x00 ∷ 0x00 ∷ 0x00 ∷ []

abbrev cleaned_digest : List ℕ
cleaned_digest = 0x05 ∷ 0x02 ∷ 0x00 ∷ 0x00 ∷ 0x00 ∷ 0x02 ∷ 0x00 ∷ 0x00 ∷ 0x00 ∷ 0x03 ∷ 0x00 ∷ 0x00 ∷ 0x00 ∷ []

-- the areas after cases 2, 4 and 5
abbrev written : List ℕ
written = played fresh writing

abbrev deleted : List ℕ
deleted = played written (delete nine)

abbrev cleaned : List ℕ
cleaned = played deleted (clean 1)

abbrev pub case1 : List Row
case1 =
    row 1 (first (format_causes 1 4 256 1024) ∷ take 14 fresh) (0 ∷ fresh_digest ++ 0x00 ∷ [])
    ∷ row 1 (drop 14 fresh) (replicate 242 255 ++ 0 ∷ replicate 255 255 ++ 0 ∷ replicate 255 255 ++ 0 ∷ replicate 255 255)
    ∷ row 1 (recovers fresh) (gives (record { head = 0; end = 13; digest = 1; map = 1; next = 1; keys = 0; left = 0 }))
    ∷ []

abbrev pub case2 : List Row
case2 =
    row 2 (starts fresh writing) (to_come 20 ++ holds (record { head = 0; end = 13; digest = 1; map = 1; next = 1; keys = 0; left = 20 }))
    ∷ row 2 (begins fresh writing).work (written_bytes ++ replicate 237 170)
    ∷ row 2 written (fresh_digest ++ written_bytes ++ 0 ∷ drop 33 fresh)
    ∷ row 2 (steps_to 19 fresh writing) (remaining 19 ++ holds (record { head = 0; end = 13; digest = 1; map = 1; next = 1; keys = 0; left = 19 }))
    ∷ row 2 (ends fresh writing) (done 1 ++ holds (record { head = 0; end = 32; digest = 1; map = 1; next = 2; keys = 1; left = 0 }))
    ∷ []

abbrev pub case3 : List Row
case3 =
    row 3 (recovers (cut_after 19 fresh writing)) (gives (record { head = 0; end = 13; digest = 1; map = 1; next = 1; keys = 0; left = 0 }))
    ∷ row 3 (reads (cut_after 19 fresh writing) nine) (refused_by 8)
    ∷ row 3 (recovers (cut_after 20 fresh writing)) (gives (record { head = 0; end = 32; digest = 1; map = 1; next = 2; keys = 1; left = 0 }))
    ∷ row 3 (reads (cut_after 20 fresh writing) nine) (shows 1 1 (replicate 8 0x11))
    ∷ []

abbrev pub case4 : List Row
case4 =
    row 4 (starts written (delete nine)) (to_come 12 ++ holds (record { head = 0; end = 32; digest = 1; map = 1; next = 2; keys = 1; left = 12 }))
    ∷ row 4 deleted (fresh_digest ++ written_bytes ++ tombstone_bytes ++ 0 ∷ drop 44 fresh)
    ∷ row 4 (ends written (delete nine)) (done 2 ++ holds (record { head = 0; end = 43; digest = 1; map = 1; next = 3; keys = 1; left = 0 }))
    ∷ row 4 (reads deleted nine) (refused_by 8)
    ∷ []

abbrev pub case5 : List Row
case5 =
    row 5 (starts deleted (clean 1)) (to_come 15 ++ holds (record { head = 0; end = 43; digest = 1; map = 1; next = 3; keys = 1; left = 15 }))
    ∷ row 5 (keeps deleted 1) []
    ∷ row 5 cleaned (take 256 deleted ++ cleaned_digest ++ 0 ∷ drop 270 fresh)
    ∷ row 5 (ends deleted (clean 1)) (done 0 ++ holds (record { head = 1; end = 13; digest = 2; map = 2; next = 3; keys = 0; left = 0 }))
    ∷ row 5 (recovers cleaned) (gives (record { head = 1; end = 13; digest = 2; map = 2; next = 3; keys = 0; left = 0 }))
    ∷ row 5 (reads cleaned nine) (refused_by 8)
    ∷ []

-- Case 6: objects and tombstones that leave room for one tombstone more, which ends at S with nothing behind it.
abbrev filling : List Operation
filling =
    write (keyed 1 1) (replicate 56 1)
    ∷ write (keyed 1 2) (replicate 56 2)
    ∷ write (keyed 1 3) (replicate 8 3)
    ∷ write (keyed 1 4) (replicate 8 4)
    ∷ write (keyed 1 5) (replicate 8 5)
    ∷ write (keyed 1 6) (replicate 8 6)
    ∷ delete (keyed 1 3)
    ∷ delete (keyed 1 4)
    ∷ []

-- the number of stores of each, one after the other
abbrev stores_of_all : List ℕ → List Operation → List ℕ
stores_of_all area [] = []
stores_of_all area (o ∷ os) = stores area o ∷ stores_of_all (played area o) os

abbrev nearly_full : List ℕ
nearly_full = played_all fresh filling

abbrev last_one : Operation
last_one = delete (keyed 1 5)

abbrev pub case6 : List Row
case6 =
    row 6 (stores_of_all fresh filling) (68 ∷ 68 ∷ 20 ∷ 20 ∷ 20 ∷ 20 ∷ 12 ∷ 12 ∷ [])
    ∷ row 6 (recovers nearly_full) (gives (record { head = 0; end = 245; digest = 1; map = 1; next = 9; keys = 6; left = 0 }))
    ∷ row 6 (starts nearly_full last_one) (to_come 11 ++ holds (record { head = 0; end = 245; digest = 1; map = 1; next = 9; keys = 6; left = 11 }))
    ∷ row 6 (played nearly_full last_one) (take 245 nearly_full ++ 4 ∷ 1 ∷ 0 ∷ 5 ∷ 0 ∷ 0 ∷ 0 ∷ 9 ∷ 0 ∷ 0 ∷ 0 ∷ drop 256 fresh)
    ∷ row 6 (recovers (played nearly_full last_one)) (gives (record { head = 0; end = 256; digest = 1; map = 1; next = 10; keys = 6; left = 0 }))
    ∷ []

abbrev pub case7 : List Row
case7 =
    row 7 (starts fresh (write nine (replicate 7 0x11))) (refused_by 7 ++ holds (record { head = 0; end = 13; digest = 1; map = 1; next = 1; keys = 0; left = 0 }))
    ∷ row 7 (begins fresh (write nine (replicate 7 0x11))).work (replicate 256 170)
    ∷ row 7 (starts fresh (write nine (replicate 8 0x11))) (to_come 20 ++ holds (record { head = 0; end = 13; digest = 1; map = 1; next = 1; keys = 0; left = 20 }))
    ∷ []

-- Case 8: an old object of a key in slot 0, a newer one and its tombstone in the head, slot 1.
abbrev spread : List ℕ
spread =
    slot_with 255 (segment_with 1 1 1 (object nine 1 (replicate 8 0x11) ∷ [])) ++
    slot_with 255 (segment_with 2 3 2 (object nine 2 (replicate 8 0x12) ∷ tombstone nine 3 ∷ [])) ++ replicate 512 255

abbrev pub case8 : List Row
case8 =
    row 8 (recovers spread) (gives (record { head = 1; end = 43; digest = 2; map = 3; next = 4; keys = 1; left = 0 }))
    ∷ row 8 (reads spread nine) (refused_by 8)
    ∷ row 8 (keeps spread 2) (4 ∷ 7 ∷ 0 ∷ 9 ∷ 0 ∷ 0 ∷ 0 ∷ 3 ∷ 0 ∷ 0 ∷ 0 ∷ [])
    ∷ row 8 (ends spread (clean 2)) (done 0 ++ holds (record { head = 2; end = 24; digest = 3; map = 5; next = 4; keys = 1; left = 0 }))
    ∷ row 8 (recovers (played spread (clean 2))) (gives (record { head = 2; end = 24; digest = 3; map = 5; next = 4; keys = 1; left = 0 }))
    ∷ row 8 (reads (played spread (clean 2)) nine) (refused_by 8)
    ∷ row 8 (keeps spread 3) []
    ∷ row 8 (ends spread (clean 3)) (done 0 ++ holds (record { head = 2; end = 13; digest = 3; map = 4; next = 4; keys = 0; left = 0 }))
    ∷ row 8 (recovers (played spread (clean 3))) (gives (record { head = 2; end = 13; digest = 3; map = 4; next = 4; keys = 0; left = 0 }))
    ∷ row 8 (reads (played spread (clean 3)) nine) (refused_by 8)
    ∷ []

abbrev pub cases : List Row
cases = case1 ++ (case2 ++ (case3 ++ (case4 ++ (case5 ++ (case6 ++ (case7 ++ case8))))))
