-- Rows of the tables in crate `rows` that stand here instead, since an edit of a definition must be refused by them: an edit
-- (must-fail) is tried on a copy of this crate alone, and computes every row that the crate has. What no edit needs stands in `rows`.
use Rattle.std.specs.Prelude.{ℕ, ◌≡◌, refl, List, [], ◌∷◌, ◌++◌, drop, replicate}
use Rattle.model.specs.Operations.{Operation, write, delete, clean}
use Rattle.model.specs.Play.{fresh_over, keyed, tombstone, recovers, start_number, starts, cut_after, played}
use Rattle.model.specs.Expected.{holds, gives, to_come}
use Rattle.model.specs.Areas.{a, b, c, d, e, small, large, long, seg, bare, vacant, full}
use Rattle.model.specs.Table.{Row, row}

-- a head that no second object of 120 bytes fits, and an old digest in the slot of the next head
abbrev over_old : List ℕ
over_old = seg 3 1 1 (long a 1 ∷ []) ++ bare 1 ++ vacant ++ vacant

-- what recovery gives when the new head has all bytes of its digest but the kind
abbrev after_digest : Operation → List ℕ
after_digest o = recovers (cut_after 13 over_old o)

abbrev old : List ℕ
old = gives (record { head = 0; end = 144; digest = 3; map = 1; next = 2; keys = 1; left = 0 })

abbrev pub rows : List Row
rows =
    -- a new head over an old digest, for a write and for a cleaning: the old head is found until the last store
    row 23 (after_digest (write b (replicate 120 2)) ++ after_digest (clean 1)) (old ++ old)
    -- R-3, kind 7: a value of 120 bytes is taken
    ∷ row 35 (starts (fresh_over 4) (write (keyed 7 9) (replicate 120 0x11)))
    (to_come 132 ++ holds (record { head = 0; end = 13; digest = 1; map = 1; next = 1; keys = 0; left = 132 }))
    -- R-4: a write meets 12, and so would every other; a delete does not
    ∷ row 401 (start_number full (write a (replicate 8 1)) ∷ start_number full (delete a) ∷ start_number full (delete c) ∷ []) (12 ∷ 0 ∷ 8 ∷ [])
    -- the tombstone stands in the place of the live object, the older object beside it goes, and the digest has the next version after it
    ∷ row 402 (drop 768 (played full (delete a))) (seg 4 13 16 (small b 4 ∷ tombstone c 6 ∷ tombstone a 15 ∷ large d 8 ∷ small e 9 ∷ []))
    ∷ []
