-- Cases for what 02 adds to 01. A row's number is the request's, times 100, and one that counts its rows.
use Rattle.std.specs.Prelude.{ℕ, ◌≡◌, refl, List, [], ◌∷◌, map, replicate}
use Rattle.segment.specs.Layout.{edition1}
use Rattle.segment.specs.declared.Key.{Key}
use Rattle.record.specs.Reach.{all_tables}
use Rattle.record.specs.declared.Expected.TheVariants.{Only}
use Rattle.record.specs.declared.Pending.TheVariants.{Append}
use Rattle.record.specs.declared.Record.{Record}
use Rattle.record.specs.declared.Tables.{Tables}
use Rattle.model.specs.Operations.{Operation, write, delete, clean}
use Rattle.model.specs.Refused.{Terms, freely, reaching, read_causes, start_causes}
use Rattle.model.specs.Play.{keyed, first, lent_with, number_on, reads_within}
use Rattle.model.specs.Expected.{refused_by, shows}
use Rattle.model.specs.Areas.{limit, crowded, idle, busy}
use Rattle.model.specs.Table.{Row, row}

-- ---- R-1: a write over the version that was read

abbrev expecting : ℕ → Terms
expecting v = record { tables = all_tables; expected = Only (record { 0 = v }) }

abbrev eight : Key → Operation
eight k = write k (replicate 8 1)

-- In a crowded area key 1 of table 1 has an object of version 16, key 2 a tombstone of version 2, and table 2 no entry. Each
-- expected version in turn, for a write of n bytes.
abbrev expects : (area : List ℕ) → Operation → List ℕ → List ℕ
expects area o vs = map (λ v. number_on (expecting v) area o) vs

abbrev pub expected_rows : List Row
expected_rows =
    -- the key's own version and no other, also where a new head is needed, as here
    row 101 (expects (crowded 3 3 1) (eight (keyed 1 1)) (16 ∷ 0 ∷ 15 ∷ 17 ∷ limit ∷ [])) (0 ∷ 21 ∷ 21 ∷ 21 ∷ 21 ∷ [])
    -- a deleted key is absent, whatever version its tombstone has
    ∷ row 102 (expects (crowded 3 3 1) (eight (keyed 1 2)) (0 ∷ 2 ∷ 1 ∷ [])) (0 ∷ 21 ∷ 21 ∷ [])
    -- and so is a key that has no entry, which meets 11 here
    ∷ row 103 (expects (crowded 3 3 1) (eight (keyed 2 1)) (0 ∷ 1 ∷ limit ∷ [])) (11 ∷ 21 ∷ 21 ∷ [])
    -- no expectation is not the expectation that the key is absent
    ∷ row 104 (number_on freely (crowded 3 3 1) (eight (keyed 1 1)) ∷ expects (crowded 3 3 1) (eight (keyed 1 1)) (0 ∷ [])) (0 ∷ 21 ∷ [])
    -- 7 comes first; then 21, before 9, 11, 12 and 10
    ∷ row 105 (expects (crowded limit 7 limit) (write (keyed 1 1) (replicate 7 1)) (16 ∷ 0 ∷ [])) (7 ∷ 7 ∷ [])
    ∷ row 106 (expects (crowded limit 7 limit) (eight (keyed 1 1)) (16 ∷ 0 ∷ [])) (9 ∷ 21 ∷ [])
    ∷ row 106 (expects (crowded limit 7 limit) (eight (keyed 2 1)) (0 ∷ 1 ∷ [])) (9 ∷ 21 ∷ [])
    ∷ row 107 (expects (crowded limit 7 1) (eight (keyed 2 1)) (0 ∷ 1 ∷ [])) (11 ∷ 21 ∷ [])
    ∷ row 108 (expects (crowded limit 7 1) (eight (keyed 1 1)) (16 ∷ 1 ∷ [])) (12 ∷ 21 ∷ [])
    ∷ row 109 (expects (crowded limit 3 1) (eight (keyed 1 1)) (16 ∷ 1 ∷ [])) (10 ∷ 21 ∷ [])
    -- a delete has no expectation
    ∷ row 110 (expects (crowded 3 3 1) (delete (keyed 1 1)) (0 ∷ 16 ∷ [])) (0 ∷ 0 ∷ [])
    ∷ []

-- ---- R-2: the tables that a caller may reach

abbrev tables : ℕ → ℕ → Tables
tables a b = record { first = a; last = b }

-- a write and a delete of 7 bytes or none under key 1 of table 1, and a cleaning of no slot, with a record and a work buffer so long
abbrev starting : Tables → Record → ℕ → List ℕ
starting t r work =
    map (λ o. first (start_causes edition1 r [] (lent_with work) (reaching t) o))
    (write (keyed 1 1) (replicate 7 1) ∷ delete (keyed 1 1) ∷ clean 0 ∷ [])

abbrev reading : Tables → Record → ℕ
reading t r = first (read_causes edition1 r [] (lent_with 0) t (keyed 1 1))

abbrev pub table_rows : List Row
table_rows =
    -- first and last are both within reach, and an empty range reaches nothing
    row 201 (map (λ t. reading t idle) (tables 1 1 ∷ tables 0 1 ∷ tables 1 2 ∷ tables 2 1 ∷ tables 0 0 ∷ tables 2 65535 ∷ [])) (8 ∷ 8 ∷ 8 ∷ 22 ∷ 22 ∷ 22 ∷ [])
    -- what is out of reach tells nothing, and has no value, though the key is there
    ∷ row 202 (reads_within (tables 1 1) (crowded 3 3 1) (keyed 1 1)) (shows 16 3 (replicate 56 16))
    ∷ row 202 (reads_within (tables 2 9) (crowded 3 3 1) (keyed 1 1)) (refused_by 22)
    ∷ row 202 (reads_within (tables 2 9) (crowded 3 3 1) (keyed 3 1)) (refused_by 8)
    -- 4 comes before it, and 3, 5, 7, 8 and 13 behind it; a cleaning has no range
    ∷ row 203 (reading (tables 2 1) (busy (Append 19 0)) ∷ starting (tables 2 1) (busy (Append 19 0)) 256) (4 ∷ 4 ∷ 4 ∷ 4 ∷ [])
    ∷ row 204 (starting (tables 2 1) (busy (Append 19 20)) 255) (22 ∷ 22 ∷ 3 ∷ [])
    ∷ row 205 (starting (tables 2 1) (busy (Append 19 20)) 256) (22 ∷ 22 ∷ 5 ∷ [])
    ∷ row 206 (starting (tables 2 1) idle 256) (22 ∷ 22 ∷ 13 ∷ [])
    ∷ row 207 (starting (tables 1 1) idle 256) (7 ∷ 8 ∷ 13 ∷ [])
    -- 22 before 21
    ∷ row 208 (number_on (record { tables = tables 2 9; expected = Only (record { 0 = 1 }) }) (crowded 3 3 1) (eight (keyed 1 1)) ∷ []) (22 ∷ [])
    ∷ []
