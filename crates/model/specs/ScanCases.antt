-- Cases of 02, R-9: reads that scan the log. Rows are numbered as in RequestCases.
use Rattle.std.specs.Prelude.{ℕ, ◌≡◌, refl, List, [], ◌∷◌, ◌++◌, map, replicate}
use Rattle.segment.specs.Layout.{edition1}
use Rattle.segment.specs.declared.Key.{Key}
use Rattle.record.specs.Answers.{read_said}
use Rattle.record.specs.Reach.{all_tables}
use Rattle.record.specs.declared.Tables.{Tables}
use Rattle.model.specs.Log.{present}
use Rattle.model.specs.Causes.{first_cause}
use Rattle.model.specs.Operations.{write, delete}
use Rattle.model.specs.Promises.{read_answer, part_of}
use Rattle.model.specs.Scanned.{image_log, scan_causes, scanned_part}
use Rattle.model.specs.Play.{fresh_over, keyed, tombstone, said, first, refuses, cut_after, played, reads}
use Rattle.model.specs.Expected.{refused_by, shows}
use Rattle.model.specs.Areas.{a, b, c, small, large, seg, vacant, damaged_head, sixteen_keys}
use Rattle.model.specs.Table.{Row, row}

-- what a scan with N 4 and S 256 answers for a key within these tables, and the value
abbrev scans_within : Tables → List ℕ → Key → List ℕ
scans_within t area k =
    said (read_said (read_answer (first_cause (scan_causes edition1 4 256 area t k)) (present (image_log 4 256 area) k))) ++
    part_of area (scanned_part edition1 4 256 area t k)

abbrev scans : List ℕ → Key → List ℕ
scans = scans_within all_tables

-- its number with another N and S
abbrev scans_as : ℕ × ℕ → List ℕ → ℕ
scans_as g area = first (scan_causes edition1 g.0 g.1 area all_tables (keyed 1 1))

-- Of a an older object stands behind a newer one, and a newer one in a slot outside the log; of b a tombstone stands before an older
-- object, in a lower slot; c stands outside the log alone.
abbrev mixed : List ℕ
mixed =
    seg 2 2 1 (small a 9 ∷ small c 8 ∷ []) ++ seg 3 14 1 (tombstone b 6 ∷ large a 7 ∷ []) ++ seg 1 4 1 (small a 5 ∷ small b 4 ∷ []) ++
    seg 2 8 1 (small a 3 ∷ [])

-- a table that the range does not hold
abbrev none : Tables
none = record { first = 2; last = 1 }

abbrev pub rows : List Row
rows =
    -- the highest version decides, neither the first nor the last entry; a tombstone does; and the log alone is looked at
    row 901 (scans mixed a ++ scans mixed b ++ scans mixed c ++ scans mixed (keyed 1 4))
    (shows 7 3 (replicate 56 7) ++ refused_by 8 ++ refused_by 8 ++ refused_by 8)
    ∷ row 901 (scans (fresh_over 0) a) (refused_by 8)
    -- during an operation the old map is read, after it the new one
    ∷ row 902
    (scans (cut_after 19 (fresh_over 0) (write a (replicate 8 1))) a ++ scans (played (fresh_over 0) (write a (replicate 8 1))) a)
    (refused_by 8 ++ shows 1 1 (replicate 8 1))
    ∷ row 902 (scans (cut_after 11 mixed (delete a)) a ++ scans (played mixed (delete a)) a) (shows 7 3 (replicate 56 7) ++ refused_by 8)
    -- more keys than 16 cells have room for: recovery with 16 refuses the image, and the read does not ask
    ∷ row 903 (refuses (sixteen_keys 16) ∷ scans (sixteen_keys 16) (keyed 1 15)) (20 ∷ refused_by 8)
    ∷ row 903 (scans (seg 1 1 1 (small a 1 ∷ []) ++ vacant ++ vacant ++ vacant) a) (shows 1 1 (replicate 8 1))
    -- each cause of the image before 22 and 8: 1, 16, 17, 24, 25, 18, 19
    ∷ row 904 (map (λ g. scans_as g (replicate 1024 0)) ((4, 256) ∷ (3, 256) ∷ (33, 256) ∷ (4, 255) ∷ (4, 2049) ∷ (5, 256) ∷ [])) (16 ∷ 1 ∷ 1 ∷ 1 ∷ 1 ∷ 1 ∷ [])
    ∷ row 904
    (scans_within none (replicate 1024 0) a ++ scans_within none (damaged_head 2 17 0 ++ vacant ++ vacant ++ vacant) a ++
    scans_within none (damaged_head 2 19 1 ++ vacant ++ vacant ++ vacant) a ++ scans_within none (damaged_head 2 3 1 ++ vacant ++ vacant ++ vacant) a ++
    scans_within none (damaged_head 2 1 1 ++ vacant ++ vacant ++ vacant) a ++
    scans_within none (seg 2 1 1 (small a 1 ∷ small b 1 ∷ []) ++ vacant ++ vacant ++ vacant) a)
    (refused_by 16 ++ refused_by 17 ++ refused_by 24 ++ refused_by 25 ++ refused_by 18 ++ refused_by 19)
    -- then 22, whether the key is present or not, and then 8
    ∷ row 905 (scans_within none mixed a ++ scans_within none mixed c ++ scans_within (record { first = 1; last = 1 }) mixed c)
    (refused_by 22 ++ refused_by 22 ++ refused_by 8)
    -- an indexed read says the same
    ∷ row 906 (scans mixed a ++ scans mixed b) (reads mixed a ++ reads mixed b)
    ∷ []
